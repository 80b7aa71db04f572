-- The rounds of choosing, of companions and of the closing fit end within 2,129 instants, as 01 counts them: ready, 16 arrivals, 128
-- events on each of 16 diaries, and 64 on the order's own calendar. So the Rust's 10,000 rounds are never met.
use Rattle.std.specs.Prelude.{◌≡◌, refl, Bool, ℕ, ◌≤◌, ◌<◌, length}
use Rattle.std.proofs.Math.Path.{sym}
use Rattle.std.proofs.Math.Bool.{true, false}
use mathlib.Core.List.{List, [], ◌∷◌, ◌++◌, map}
use Rattle.std.proofs.Math.Logic.{⊎_elim}
use native.Mathlib.Omega.{arith}
use Rattle.std.proofs.Math.ListN.{take, length-append, length-take}
use Rattle.std.proofs.lemmas.List.{length-map}
use Rattle.calendar.specs.declared.Calendar.{Calendar}
use Rattle.calendar.specs.Valid as calendar
use Rattle.calendar.specs.Laws.Rules as calendar-rules
use Rattle.timeline.specs.Valid as timeline
use Rattle.timeline.specs.Diary.{diary}
use Rattle.activity.specs.declared.Activity.{Activity}
use Rattle.board.specs.declared.Board.{Board}
use Rattle.board.specs.Resources.{on_board}
use Rattle.board.specs.Valid as board
use Rattle.scheduler.specs.Alone.{Share, all_start, earliest_of}
use Rattle.scheduler.specs.declared.Entry.{Entry}
use Rattle.scheduler.specs.Fitting.{among, shares_of, suits, fitting}
use Rattle.cells.specs.Every.{Each, each_on}
use Rattle.cells.specs.Laws.Each.{each-in-map}
use Rattle.scheduler.specs.Laws.Together.{Sound, together-answers}
use Rattle.calendar.specs.Laws.Searching.{answers-same}
use Rattle.scheduler.specs.Instants.{events, events_in, events_of, above, events_on, points, latest_of, steps}
use Rattle.scheduler.specs.Laws.Events.{among-left, among-right, among_cases, above-length}
use Rattle.scheduler.specs.Laws.Ruled.{events-count, entries-seated, entries-valid, seated-events, points-length, events-board}
use Rattle.scheduler.specs.Laws.Closing.{fitting-answers}
use Rattle.scheduler.specs.Laws.Latest.{latest-says}
use Rattle.scheduler.specs.Shares.{own_share}
use Rattle.scheduler.specs.Laws.Owning.{own-valid, suits_on, suits-on}
use Rattle.scheduler.specs.Laws.Counting.{steps-mean, latest-wider}

-- So the number of instants left is what the rounds go by: fewer are left after each round that leads on, and at most 2,064 at first.
pub instants-few : (b : Board) → board.valid b ≡ true → (a : Activity) (ready t : ℕ) → above (points b a ready) t ≤ 2064
instants-few b v a ready t = omega (arith, above-length (points b a ready) t, points-length b v a ready)

-- Companions: any number above 640 gives the least start of a resource with its at most four companions.
pub companions-rounds : (resumable : Bool) (span : ℕ) (xs : List Share) (from n : ℕ) → Sound xs → length xs ≤ 5 → 640 < n
    → steps n (latest_of resumable span xs) from ≡ earliest_of resumable span xs from
companions-rounds resumable span xs from n v few h =
    let ts = map (λ x. x.timeline) xs in
    let count : length (events_in ts) ≤ 640
    = omega (arith, events-count ts (each-in-map (λ t. timeline.valid t ≡ true) (λ x. x.timeline) xs v), length-map xs (λ (x : Share). x.timeline)) in
    answers-same (all_start resumable span xs) (all_start resumable span xs) from (steps n (latest_of resumable span xs) from) (earliest_of resumable span xs from) (λ x l. refl)
    (steps-mean (all_start resumable span xs) (latest_of resumable span xs) (events_of xs) (λ t. latest-says resumable span xs t v) from n (omega (arith, count)))
    (together-answers resumable span xs from v)

module _ (b : Board) (v : board.valid b ≡ true) (own : Calendar) (w : calendar.valid own ≡ true) where
  -- the events on the order's own calendar and on all diaries of the board
  abbrev pub closing_points : List ℕ
  closing_points = events (own_share own).timeline ++ events_on b

  own-length : length (events (own_share own).timeline) ≤ 64
  unfolding events diary
  own-length =
      let A = take own.windows.len own.windows.starts in
      let B = take own.blocks.len own.blocks.ends in
      omega (
        arith,
        length-append A (B ++ []),
        length-append B [],
        length-take own.windows.len own.windows.starts,
        length-take own.blocks.len own.blocks.ends,
        (calendar-rules.right own.windows (calendar-rules.windows-right own w)).few,
        (calendar-rules.right own.blocks (calendar-rules.blocks-right own w)).few,
      )

  closing-length : length closing_points ≤ 2112
  closing-length = omega (arith, length-append (events (own_share own).timeline) (events_on b), own-length, events-board b v)

  -- The closing fit of unbroken work: any number above 2,112 gives the least start that suits all.
  pub closing-rounds : (es : List Entry) → Each (λ e. on_board b e.number ≡ true) es → (span t n : ℕ) → 2112 < n
      → steps n (latest_of false span (own_share own ∷ shares_of b es)) t ≡ fitting false (shares_of b es) own span t
  unfolding suits_on events_in
  closing-rounds es on span t n h =
      let xs = shares_of b es in
      let ys = own_share own ∷ xs in
      let sound : Sound ys = each_on (own-valid own w) (entries-valid b v es on) in
      let own-events = events (own_share own).timeline in
      let wider : (x : ℕ) → among x (events_of ys) ≡ true → among x closing_points ≡ true = λ x k.
      ⊎_elim
      (λ (j : among x own-events ≡ true). among-left x own-events (events_on b) j)
      (λ (j : among x (events_of xs) ≡ true). among-right x own-events (events_on b) (seated-events b v xs (entries-seated b v es on) x j))
      (among_cases x own-events (events_of xs) k) in
      answers-same (all_start false span ys) (suits false (xs) own span) t (steps n (latest_of false span ys) t) (fitting false (xs) own span t)
      (λ x l. sym (suits-on false (xs) own span x))
      (steps-mean (all_start false span ys) (latest_of false span ys) closing_points
      (λ u. latest-wider (all_start false span ys) (events_of ys) closing_points u (latest_of false span ys u) wider (latest-says false span ys u sound))
      t n (omega (arith, closing-length)))
      (fitting-answers false (xs) own span t (entries-valid b v es on) w)
