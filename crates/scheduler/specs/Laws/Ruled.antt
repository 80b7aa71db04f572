-- What a board that keeps the rules gives: sound diaries, and at most 2,064 instants at which a resource can first start.
use Rattle.std.specs.Prelude.{◌≡◌, length, take}
use Rattle.std.proofs.Math.Path.{refl}
use Rattle.std.proofs.Common.{sym, ap, ◌∙◌, arith, get_or-take}
use Rattle.std.proofs.Math.Bool.{true}
use mathlib.Core.List.{List, [], ◌∷◌, ◌++◌, map}
use Rattle.std.proofs.Math.Logic.{⊎_elim}
use Prim.Native.Nat.{ℕ, ◌*◌, ◌≤◌, ◌<◌}
use Rattle.std.proofs.Math.ListN.{length-append, length-map, length-take, get_or-eq_default}
use Rattle.cells.specs.Laws.Basics.{not-both, lt-or-ge}
use Rattle.calendar.specs.Search.{Found, at}
use Rattle.calendar.specs.Laws.Rules as calendar
use Rattle.timeline.specs.declared.ResourceTimeline.{ResourceTimeline}
use Rattle.timeline.specs.Valid as timeline
use Rattle.timeline.specs.Laws.Rules as timeline-rules
use Rattle.activity.specs.declared.Activity.{Activity}
use Rattle.cells.specs.Every.{every, Each, each_end, each_on}
use Rattle.board.specs.declared.Resource.{Resource}
use Rattle.board.specs.declared.Board.{Board}
use Rattle.board.specs.Resources.{no_resource, resources_of, resource_at, lookup, on_board}
use Rattle.board.specs.Valid as board
use Rattle.board.specs.Laws.Facts.{rules_of}
use Rattle.board.specs.Laws.Knowing.{on-place}
use Rattle.board.specs.Theorems.Meaning.{resource-of}
use Rattle.scheduler.specs.Alone.{Share, resource_in, diary_of, one_unit, companions_of, with_companions, arrival}
use Rattle.scheduler.specs.declared.Entry.{Entry}
use Rattle.scheduler.specs.Fitting.{among, share_of, shares_of}
use Rattle.cells.specs.Laws.Each.{each-every, each_weaken, each-in-map}
use Rattle.cells.specs.Laws.Arrays.{each-cells}
use Rattle.scheduler.specs.Laws.Together.{Sound}
use Rattle.scheduler.specs.Instants.{events, events_in, events_of, events_on, points}
use Rattle.scheduler.specs.Laws.Events.{event-among, among_cases}

pub place-event : (b : Board) (i x : ℕ) → i < b.len → among x (events (resource_at b i).timeline) ≡ true → among x (events_on b) ≡ true
unfolding events_on events
place-event b i x l e = event-among (λ r. r.timeline) no_resource refl (resources_of b) i x (rw (get_or-take b.len b.resources i no_resource l) e)

-- a diary that keeps the rules has at most 128 events
events-length : (t : ResourceTimeline) → timeline.valid t ≡ true → length (events t) ≤ 128
unfolding events
events-length t w =
    let k = timeline-rules.rules_of t w in
    let A = take t.calendar.windows.len t.calendar.windows.starts in
    let B = take t.calendar.blocks.len t.calendar.blocks.ends in
    let C = take t.len t.ends in
    omega (
      arith,
      length-append A (B ++ C),
      length-append B C,
      length-take t.calendar.windows.len t.calendar.windows.starts,
      length-take t.calendar.blocks.len t.calendar.blocks.ends,
      length-take t.len t.ends,
      k.room,
      (calendar.right t.calendar.windows (calendar.windows-right t.calendar k.calendar)).few,
      (calendar.right t.calendar.blocks (calendar.blocks-right t.calendar k.calendar)).few,
    )

pub events-count : (ts : List ResourceTimeline) → Each (λ t. timeline.valid t ≡ true) ts → length (events_in ts) ≤ 128 * length ts
unfolding events_in
events-count [] each_end = omega arith
events-count (t ∷ ts) (each_on w ws) = omega (arith, length-append (events t) (events_in ts), events-length t w, events-count ts ws)

-- a share of a diary of the board
pub record Seated (b : Board) (x : Share) : Type 0 where
  pub place : ℕ
  pub stands : place < b.len
  pub so : x.timeline ≡ (resource_at b place).timeline

-- the diary of a number, by its place
pub diary-at : (b : Board) (n i : ℕ) → lookup b n ≡ at i → diary_of b n ≡ (resource_at b i).timeline
unfolding resource_in
diary-at b n i e = ap (λ (f : Found). (resource_in b f).timeline) e

module _ (b : Board) (v : board.valid b ≡ true) where
  diary-valid : (i : ℕ) → i < b.len → timeline.valid (resource_at b i).timeline ≡ true
  diary-valid i l = (resource-of b v i l).timeline

  -- every place below the length is there
  pub all_there : b.len ≤ length b.resources
  all_there =
      ⊎_elim
      (λ (l : length b.resources < b.len).
      let e = get_or-eq_default b.resources no_resource {n = length b.resources} (omega arith) in
      let k : timeline.valid no_resource.timeline ≡ true = rw e at (diary-valid (length b.resources) l) in
      absurd (omega (arith, (timeline-rules.rules_of no_resource.timeline k).some)))
      (λ (l : b.len ≤ length b.resources). l)
      (lt-or-ge (length b.resources) b.len)

  pub on-valid : (n : ℕ) → on_board b n ≡ true → timeline.valid (diary_of b n) ≡ true
  on-valid n e =
      let w = on-place b n e in
      ap timeline.valid (diary-at b n w.0 w.1) ∙ diary-valid w.0 w.2

  -- the diaries of numbers on the board are: those of entries, and of a resource and its companions
  seated : (n : ℕ) (x : Share) → on_board b n ≡ true → x.timeline ≡ diary_of b n → Seated b x
  seated n x o e =
      let w = on-place b n o in
      record { place = w.0; stands = w.2; so = e ∙ diary-at b n w.0 w.1 }

  pub entries-seated : (es : List Entry) → Each (λ e. on_board b e.number ≡ true) es → Each (Seated b) (shares_of b es)
  entries-seated es os = each-in-map (Seated b) (share_of b) es (each_weaken (λ e. on_board b e.number ≡ true) (λ e. Seated b (share_of b e)) es (λ e o. seated e.number (share_of b e) o refl) os)

  pub all-seated : (i usage : ℕ) → i < b.len → every (on_board b) (companions_of (resource_at b i)) ≡ true → Each (Seated b) (with_companions b (resource_at b i) usage)
  unfolding with_companions
  all-seated i usage l e =
      let cs = companions_of (resource_at b i) in
      each_on (record { place = i; stands = l; so = refl }) (each-in-map (Seated b) (one_unit b) cs (each_weaken (λ c. on_board b c ≡ true) (λ c. Seated b (one_unit b c)) cs (λ c o. seated c (one_unit b c) o refl) (each-every (on_board b) cs e)))

  -- they keep the rules, and their events are among the board's
  pub seated-sound : (xs : List Share) → Each (Seated b) xs → Sound xs
  seated-sound xs s = each_weaken (Seated b) (λ x. timeline.valid x.timeline ≡ true) xs (λ x w. ap timeline.valid w.so ∙ diary-valid w.place w.stands) s

  pub entries-valid : (es : List Entry) → Each (λ e. on_board b e.number ≡ true) es → Sound (shares_of b es)
  entries-valid es os = seated-sound (shares_of b es) (entries-seated es os)

  pub seated-events : (xs : List Share) → Each (Seated b) xs → (x : ℕ) → among x (events_of xs) ≡ true → among x (events_on b) ≡ true
  unfolding events_in among
  seated-events [] each_end x h = absurd (not-both true refl (sym h))
  seated-events (y ∷ ys) (each_on w s) x h =
      ⊎_elim
      (λ (k : among x (events y.timeline) ≡ true). place-event b w.place x w.stands (ap (λ (t : ResourceTimeline). among x (events t)) (sym w.so) ∙ k))
      (λ (k : among x (events_of ys) ≡ true). seated-events ys s x k)
      (among_cases x (events y.timeline) (events_of ys) h)

  -- 128 events on each of 16 diaries
  pub events-board : length (events_on b) ≤ 2048
  unfolding events_on
  events-board =
      let w = each-cells (λ r. timeline.valid r.timeline ≡ true) no_resource b.len b.resources (λ i l m. diary-valid i l) in
      let n = events-count (map (λ r. r.timeline) (resources_of b)) (each-in-map (λ t. timeline.valid t ≡ true) (λ r. r.timeline) (resources_of b) w) in
      omega (arith, n, length-map (resources_of b) (λ (r : Resource). r.timeline), length-take b.len b.resources, (rules_of b v).few)

  module _ (a : Activity) (ready : ℕ) where
    -- 16 arrivals, and 128 events on each of 16 diaries
    pub points-length : length (points b a ready) ≤ 2064
    unfolding points
    points-length =
        let rs = resources_of b in
        omega (arith, length-append (map (arrival b a ready) rs) (events_on b), length-map rs (arrival b a ready), events-board, length-take b.len b.resources, (rules_of b v).few)
