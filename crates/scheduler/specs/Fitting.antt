-- 'Fitting': the entries of those held together, and the least start that suits all.
use Rattle.std.specs.Prelude.{ℕ, suc, ◌+◌, ◌-◌, max, Bool, false, ◌&&◌, ◌||◌, cond, List, [], ◌∷◌, ◌++◌, map, eqb}
use Rattle.calendar.specs.declared.Calendar.{Calendar}
use Rattle.calendar.specs.Search.{Found, nothing, at, least_from, greatest_of}
use Rattle.cells.specs.Every.{every}
use Rattle.calendar.specs.Fits.{fits}
use Rattle.calendar.specs.Work.{last_change, joint_end}
use Rattle.timeline.specs.Earliest.{free_on}
use Rattle.activity.specs.declared.ActivityDuration.{ActivityDuration}
use Rattle.activity.specs.declared.Activity.{Activity}
use Rattle.activity.specs.Durations.{duration_on}
use Rattle.board.specs.declared.Board.{Board}
use Rattle.board.specs.Setups.{setup_on}
use Rattle.scheduler.specs.declared.Entry.{Entry}
use Rattle.scheduler.specs.Entries.{held_entry, companion_entry}
use Rattle.scheduler.specs.Alone.{Share, all_start, last_of, diary_of, companions_of, span_of}
use Rattle.scheduler.specs.Choosing.{Held}

abbrev pub number_of : Held → ℕ
number_of h = h.resource.number

abbrev pub numbers_of : List Held → List ℕ
numbers_of hs = map number_of hs

-- the durations are those of all held together
unfoldable pub duration_together : Activity → List Held → ActivityDuration
duration_together a hs = duration_on a.duration a.timings (numbers_of hs)

abbrev pub entry_of : ℕ → ℕ → Held → Entry
entry_of category setup h = held_entry h.resource.number (setup_on h.resource category setup) h.usage

abbrev pub held_entries : ℕ → ℕ → List Held → List Entry
held_entries category setup hs = map (entry_of category setup) hs

unfoldable pub greatest_setup : List Entry → ℕ
greatest_setup es = greatest_of (map (λ e. e.setup) es)

unfoldable pub among : ℕ → List ℕ → Bool
among n [] = false
among n (m ∷ ms) = eqb m n || among n ms

-- companions not already held join once each
unfoldable pub join_each : List ℕ → List ℕ → List ℕ → List ℕ
join_each held joined [] = joined
join_each held joined (c ∷ cs) = join_each held (cond (among c held || among c joined) joined (joined ++ (c ∷ []))) cs

unfoldable pub all_companions : List Held → List ℕ
all_companions [] = []
all_companions (h ∷ hs) = companions_of h.resource ++ all_companions hs

unfoldable pub companion_entries : List Held → List Entry
companion_entries hs = map companion_entry (join_each (numbers_of hs) [] (all_companions hs))

-- the entries, held ones first
unfoldable pub entries_of : Activity → List Held → List Entry
entries_of a hs = held_entries a.category (duration_together a hs).setup hs ++ companion_entries hs

-- span = greatest setup among held + process + teardown
unfoldable pub span_together : Activity → List Held → ℕ
span_together a hs = span_of (greatest_setup (held_entries a.category (duration_together a hs).setup hs)) (duration_together a hs)

abbrev pub share_of : Board → Entry → Share
share_of b e = record { timeline = diary_of b e.number; units = e.units }

abbrev pub shares_of : Board → List Entry → List Share
shares_of b es = map (share_of b) es

-- unbroken: every entry and the order's own calendar fit at s
unfoldable pub fits_all : List Share → Calendar → ℕ → ℕ → Bool
fits_all xs own span s = all_start false span xs s && fits own s (s + span)

-- every entry has its units free over [s, e)
unfoldable pub all_free : List Share → ℕ → ℕ → Bool
all_free xs s e = every (λ x. free_on x.timeline x.units s e) xs

unfoldable pub free_to_end : List Share → ℕ → Found → Bool
free_to_end xs s nothing = false
free_to_end xs s (at e) = all_free xs s e

abbrev pub calendar_of : Share → Calendar
calendar_of x = x.timeline.calendar

abbrev pub calendars_of : List Share → Calendar → List Calendar
calendars_of xs own = own ∷ map calendar_of xs

-- resumable: over joint working time, free to the joint end
unfoldable pub starts_all : List Share → Calendar → ℕ → ℕ → Bool
starts_all xs own work s = free_to_end xs s (joint_end (calendars_of xs own) s work)

unfoldable pub suits : Bool → List Share → Calendar → ℕ → ℕ → Bool
suits resumable xs own span s = cond resumable (starts_all xs own span s) (fits_all xs own span s)

-- from here on nothing changes on any diary, nor on the order's own calendar
unfoldable pub last_all : List Share → Calendar → ℕ
last_all xs own = max (last_change (own ∷ [])) (last_of xs)

-- the least start ≥ from that suits all (the bound cuts nothing off: Closing.antt, `fitting-answers`)
unfoldable pub fitting : Bool → List Share → Calendar → ℕ → ℕ → Found
fitting resumable xs own span from = least_from (suits resumable xs own span) from (suc (last_all xs own - from))

-- and its end
unfoldable pub end_of : Bool → List Share → Calendar → ℕ → ℕ → Found
end_of resumable xs own span s = cond resumable (joint_end (calendars_of xs own) s span) (at (s + span))
