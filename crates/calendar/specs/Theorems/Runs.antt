-- Edges of working time, on the definitions: a pause, work 0, too little time left, two calendars together.
use Rattle.std.specs.Prelude.{◌≡◌, refl, [], ◌∷◌}
use Rattle.calendar.specs.declared.Calendar.{Calendar}
use Rattle.calendar.specs.Search.{nothing, at, least_from, greatest_of}
use Rattle.calendar.specs.Spans.{spans_from, any, holds, meets, contains}
use Rattle.calendar.specs.Fits.{open_for, fits}
use Rattle.cells.specs.Every.{every}
use Rattle.calendar.specs.Work.{working, joint, end_from, work_end, latest, last_change, joint_end}

-- windows 0-10, 10-20; window 0-100 with block 40-60
abbrev pub touching : Calendar
touching = record { windows = record { starts = 0 ∷ 10 ∷ []; ends = 10 ∷ 20 ∷ []; len = 2 }; blocks = record { starts = []; ends = []; len = 0 } }

abbrev pub broken : Calendar
broken = record { windows = record { starts = 0 ∷ []; ends = 100 ∷ []; len = 1 }; blocks = record { starts = 40 ∷ []; ends = 60 ∷ []; len = 1 } }

-- from a pause, work 0, too little time left, and both calendars together
pub runs :
    (joint_end (broken ∷ []) 50 30
    ∷ joint_end (broken ∷ []) 60 0
    ∷ joint_end (broken ∷ []) 30 51
    ∷ joint_end (touching ∷ broken ∷ []) 5 15
    ∷ joint_end (touching ∷ broken ∷ []) 5 16
    ∷ [])
    ≡ nothing ∷ at 60 ∷ nothing ∷ at 20 ∷ nothing ∷ []
unfolding least_from spans_from any holds meets contains open_for fits working joint every end_from work_end latest last_change greatest_of
runs = refl
