-- 01, 'Program slot': what a record does.
use Rattle.std.specs.Prelude.{ℕ, ◌+◌, ◌-◌, ◌^◌, Bool, true, false, cond, ◌||◌, List, get_or, pos, leb, ltb, eqb}
use Rattle.calendar.specs.Add.{add_window, add_block}
use Rattle.timeline.specs.declared.ResourceTimeline.{ResourceTimeline}
use Rattle.timeline.specs.declared.Booked.{Booked}
use Rattle.timeline.specs.Diary.{new_diary}
use Rattle.timeline.specs.Book.{book_reply, calendar_reply}
use Rattle.timeline.specs.Ask.{AskReply, refused, fit_reply, resumable_reply}
use Rattle.record_diary.specs.declared.DiaryStepped.{DiaryStepped}
use Rattle.record_bodies.specs.declared.turns.Turn.{Turn}
use Rattle.record_bodies.specs.Bodies.{diary_len}
use Rattle.record_bodies.specs.Numbers.{little}
use Rattle.record_diary_text.specs.declared.Line.{Line}
use Rattle.record_diary_text.specs.Lines.{Printed, nothing, line, line_of}

-- an unknown kind
abbrev pub unknown : ℕ → Bool
unknown kind = eqb (diary_len kind) 0

-- a cut body: behind the kind byte at index i fewer bytes are left, up to index n, than the body has
abbrev pub cut : ℕ → ℕ → ℕ → Bool
cut kind i n = leb (n - i) (diary_len kind)

-- the diary after a record, and what the record prints
pub record Done : Type 0 where
  pub timeline : ResourceTimeline
  pub prints : Printed

unfoldable pub stepped_of : DiaryStepped → Done
stepped_of s = record { timeline = s.timeline; prints = line_of s.line }

-- a new diary; a capacity above 2^31 - 1 is refused 1
unfoldable pub capacity_reply : ResourceTimeline → ℕ → Done
capacity_reply t capacity =
    cond (ltb (2 ^ 31 - 1) capacity) (record { timeline = t; prints = line (refused 1) })
    (record { timeline = new_diary (pos capacity); prints = nothing })

-- a window, a block or a booking: only a refusal prints
unfoldable pub books : Booked → Done
books b = record { timeline = b.timeline; prints = cond (eqb b.refusal 0) nothing (line (refused b.refusal)) }

-- an ask: its reply prints, and the diary stays
unfoldable pub asks : ResourceTimeline → AskReply → Done
asks t r = record { timeline = t; prints = line r }

-- a record of a known kind, its body beginning at index i
unfoldable pub record_does : ResourceTimeline → ℕ → List ℕ → ℕ → Done
record_does t kind bs i =
    cond (eqb kind 1) (capacity_reply t (little bs i 4))
    (cond (eqb kind 2) (books (calendar_reply t (add_window t.calendar (little bs i 8) (little bs (i + 8) 8))))
    (cond (eqb kind 3) (books (calendar_reply t (add_block t.calendar (little bs i 8) (little bs (i + 8) 8))))
    (cond (eqb kind 4) (books (book_reply t (little bs i 8) (little bs (i + 8) 8) (little bs (i + 16) 4)))
    (cond (eqb kind 5) (asks t (fit_reply t (little bs i 8) (little bs (i + 8) 8) (little bs (i + 16) 4)))
    (asks t (resumable_reply t (little bs i 8) (little bs (i + 8) 8) (little bs (i + 16) 4)))))))

-- a record with its kind byte: what it did, where the next begins, and whether to go on
pub record Turned : Type 0 where
  pub done : Done
  pub at : ℕ
  pub more : Bool

unfoldable pub turn_of : Turn ResourceTimeline Line → Turned
turn_of r = record { done = record { timeline = r.state; prints = line_of r.reply }; at = r.at; more = r.more }

abbrev pub ends : ResourceTimeline → Printed → ℕ → Turned
ends t p i = record { done = record { timeline = t; prints = p }; at = i; more = false }

-- the record that begins at index i, the input ending at index n: nothing where the input ends between two records; an unknown kind or
-- a cut body prints `refused 9` and ends
unfoldable pub turn_reply : ResourceTimeline → List ℕ → ℕ → ℕ → Turned
turn_reply t bs i n =
    cond (leb n i) (ends t nothing i)
    (cond (unknown (get_or bs i 0) || cut (get_or bs i 0) i n) (ends t (line (refused 9)) i)
    (record { done = record_does t (get_or bs i 0) bs (i + 1); at = i + 1 + diary_len (get_or bs i 0); more = true }))
