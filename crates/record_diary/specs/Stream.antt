-- 01, 'Program slot': a whole stream, what the program `slot` prints for the bytes of its input.
use Rattle.std.specs.Prelude.{ℕ, zero, suc, true, false, List, [], ◌++◌, length, pos}
use Rattle.timeline.specs.declared.ResourceTimeline.{ResourceTimeline}
use Rattle.timeline.specs.Diary.{new_diary}
use Rattle.record_diary_text.specs.Lines.{text_of}
use Rattle.record_diary.specs.Records.{Turned, turn_reply}

-- what a record prints, and what follows it
unfoldable pub go_on : (ResourceTimeline → ℕ → List ℕ) → Turned → List ℕ
go_on next r = text_of r.done.prints ++ elim r.more [ true ↦ next r.done.timeline r.at | false ↦ [] ]

-- the records from index i on, at most k of them
unfoldable pub stream_from : ℕ → ResourceTimeline → List ℕ → ℕ → List ℕ
stream_from zero t bs i = []
stream_from (suc k) t bs i = go_on (λ d j. stream_from k d bs j) (turn_reply t bs i (length bs))

-- it starts with an empty diary of capacity 1, and every record has at least its kind byte
unfoldable pub slot : List ℕ → List ℕ
slot bs = stream_from (suc (length bs)) (new_diary (pos 1)) bs 0
