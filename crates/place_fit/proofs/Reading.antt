-- The order's own calendar and the diaries of the entries, as the fitters read them off the board one after another.
use mathlib.Core.Path.{◌≡◌, refl, sym, ap, ◌∙◌}
use mathlib.Core.Bool.{true}
use mathlib.Core.List.{List, [], ◌∷◌}
use Prim.Native.Nat.{ℕ, zero, suc, ◌+◌, ◌-◌, ◌≤◌, ◌<◌}
use native.Mathlib.Omega.{arith}
use lib.ListN.{length, get_or, take, length-map}
use lib.Seq.{length-take-le}
use Rattle.calendar.specs.declared.Calendar.{Calendar}
use Rattle.calendar.specs.Search.{Found, at}
use Rattle.calendar.specs.Valid as calendar
use Rattle.timeline.specs.declared.ResourceTimeline.{ResourceTimeline}
use Rattle.timeline.specs.Valid as timeline
use Rattle.board.specs.declared.Board.{Board}
use Rattle.board.specs.Resources.{lookup, on_board}
use Rattle.board.specs.Valid.{valid}
use Rattle.board.specs.Laws.Facts.{rules_of}
use Rattle.scheduler.specs.declared.Entry.{Entry}
use Rattle.scheduler.specs.Alone.{Share, resource_in}
use Rattle.scheduler.specs.Fitting.{share_of, shares_of}
use Rattle.scheduler.specs.Shares.{no_share, own_share}
use Rattle.cells.specs.Every.{each_on}
use Rattle.cells.specs.Laws.Arrays.{each_at, each-cells}
use Rattle.scheduler.specs.Laws.Together.{Sound}
use Rattle.scheduler.specs.Laws.Ruled.{entries-valid}
use Rattle.scheduler.specs.Instants.{events_of}
use Rattle.scheduler.specs.Laws.Owning.{own-valid}
use Rattle.board.specs.Places.{Known}
use Rattle.board.specs.Laws.Knowing.{number-place}
use Rattle.place_companions.proofs.Seating.{share_at}
use Rattle.scheduler.specs.Entries.{no_entry}
use Rattle.place_fit.specs.Closing.{EntriesOn}
use Rattle.place_fit.specs.Asks.{Asks, those}

entry-share : (b : Board) (n : ℕ) (es : List Entry) (k : ℕ) → n ≤ length es → k < n → get_or (shares_of b (take n es)) k no_share ≡ share_of b (get_or es k no_entry)
entry-share b zero es k l h = absurd (omega arith)
entry-share b (suc n) [] k l h = absurd (omega arith)
entry-share b (suc n) (e ∷ es) zero l h = refl
entry-share b (suc n) (e ∷ es) (suc k) l h = entry-share b n es k (omega arith) (omega arith)

-- the entry that is read for the i-th diary: its number and its place are below 16
abbrev pub Small : List Entry → List ℕ → ℕ → Type 0
Small es places i = ((get_or es (i - 1) no_entry).number < 16) × (get_or places (get_or es (i - 1) no_entry).number 0 < 16)

module _ (b : Board) (es : List Entry) (n : ℕ) (first : ResourceTimeline) where
  abbrev all : List Share
  all = those b es n first

  -- the instants at which something can first start on one of them
  abbrev pub instants : List ℕ
  instants = events_of all

  module _ (places : List ℕ) (a : Asks b es n places first) where
    pub asks-long : length all ≡ n + 1
    asks-long = let e = a.entries in omega (arith, length-map (take n es) (share_of b), length-take-le n es (omega (arith, e.few, e.long)))

    pub asks-sound : Sound all
    asks-sound = each_on a.own (entries-valid b a.board (take n es) (each-cells (λ e. on_board b e.number ≡ true) no_entry n es (λ k l m. (a.entries.each k l).0)))

    -- the entry that is read for the i-th diary: its number, its place and its share
    module _ (i : ℕ) (p : 0 < i) (l : i < n + 1) where
      abbrev entry : Entry
      entry = get_or es (i - 1) no_entry

      placed : (entry.number < 16) × (lookup b entry.number ≡ at (get_or places entry.number 0)) × (get_or places entry.number 0 < b.len)
      placed = number-place b a.board places a.known entry.number (a.entries.each (i - 1) (omega arith)).0

      pub entry-small : Small es places i
      entry-small = (placed.0, omega (arith, placed.2, (rules_of b a.board).few))

      pub read-share : share_at b (get_or places entry.number 0) entry.units ≡ get_or all i no_share
      unfolding resource_in
      read-share =
          let z : i ≡ suc (i - 1) = omega arith in
          let w = entry-share b n es (i - 1) (omega (arith, a.entries.few, a.entries.long)) (omega arith) ∙ ap (λ (f : Found). record { timeline = (resource_in b f).timeline; units = entry.units }) placed.1 in
          sym (ap (λ (k : ℕ). get_or all k no_share) z ∙ w)

    -- each diary keeps the rules, and at least a unit is wanted of it
    pub asks-kept : (i : ℕ) → i < n + 1 → timeline.valid (get_or all i no_share).timeline ≡ true
    asks-kept i l = each_at (λ x. timeline.valid x.timeline ≡ true) no_share all asks-sound i (omega (arith, asks-long))

    pub asks-some : (i : ℕ) → i < n + 1 → 1 ≤ (get_or all i no_share).units
    asks-some zero l = omega arith
    asks-some (suc i) l = rw (entry-share b n es i (omega (arith, a.entries.few, a.entries.long)) (omega arith)) (a.entries.each i (omega arith)).1

-- the order's own calendar as a diary keeps the rules
pub asks-own : (b : Board) (es : List Entry) (n : ℕ) (places : List ℕ) (own : Calendar) (first : ResourceTimeline) → first ≡ (own_share own).timeline → valid b ≡ true → Known b places → calendar.valid own ≡ true → EntriesOn b es n → Asks b es n places first
asks-own b es n places own first e v known w on = record { board = v; known = known; own = rw e (own-valid own w); entries = on }
