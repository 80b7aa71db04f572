-- A round: who is asked is on the board, and what is answered once all cells are known.
use Rattle.std.proofs.Common.{◌≡◌, ℕ, ◌+◌, ◌*◌, ◌/◌, ◌%◌, ◌≤◌, ◌<◌, Bool, true, ◌&&◌, ltb, List, get_or, set, refl, sym, ap, ◌∙◌, arith}
use lib.Seq.{get_or-set_same}
use borrow.Author.Tests.{ltb-true}
use Rattle.cells.specs.Laws.Basics.{and_split}
use Rattle.std.specs.Prelude.{Option, Some, None, unwrap_or}
use Rattle.calendar.specs.Limits.{last_asked, never}
use Rattle.timeline_fit.specs.Steps.{start_of}
use Rattle.activity.specs.declared.Activity.{Activity}
use Rattle.activity.specs.Check.{activity_refusal}
use Rattle.board.specs.declared.Board.{Board}
use Rattle.board.specs.Valid.{valid}
use Rattle.place_plans.specs.declared.Plan.{Plan}
use Rattle.place_plans.specs.Plans.{no_plan, Planned}
use Rattle.place_rounds.specs.Tables.{Answered, Remembered, found_at, number_of, requirement_at}
use Rattle.place_rounds.proofs.Noting.{Through, through-next, kept-asked, through-asked}
use Rattle.place_choice.specs.Seeking.{Seeks}

pub asked_here : (i n : ℕ) (c : Bool) → ltb i n && c ≡ true → i < n
asked_here i n c e = ltb-true i n (and_split (ltb i n) c e).0

pub answers : (b : Board) (a : Activity) (ready t : ℕ) (plans : List Plan) (starts : List ℕ) → valid b ≡ true → activity_refusal a ready ≡ 0 → b.len ≤ 16 → t ≤ last_asked
    → Planned b a ready b.len plans → Through b a ready t starts (16 * a.len) → Answered b a ready t b.len plans starts
answers b a ready t plans starts v w few soon planned thru = record {
  right = v;
  accepted = w;
  all = refl;
  planned = planned;
  soon = soon;
  so = λ j i m n. thru j i m n (omega (arith, few));
}

pub seeks : (b : Board) (a : Activity) (ready t : ℕ) (plans : List Plan) (k : ℕ) → valid b ≡ true → activity_refusal a ready ≡ 0 → t ≤ last_asked → Planned b a ready b.len plans → k < 16 * a.len → k % 16 < b.len
    → Seeks b a ready (get_or plans (k % 16) no_plan) (k % 16) (k / 16) t
seeks b a ready t plans k v w soon planned l here = record { right = v; accepted = w; here = here; one = omega (arith, l); soon = soon; plan = planned.so (k % 16) here }

-- a start as the tables keep it
start-number : (x : Option ℕ) → number_of (start_of x) ≡ unwrap_or x never
unfolding number_of
start-number None = refl
start-number (Some s) = refl

-- one cell more is known, as its resource has answered
pub asked-next : (b : Board) (v : valid b ≡ true) (few : b.len ≤ 16) (a : Activity) (ready : ℕ) (w : activity_refusal a ready ≡ 0) (t : ℕ) (asked starts : List ℕ) → Remembered b a ready asked starts → (k : ℕ) → k < 16 * a.len → Through b a ready t starts k
    → k < 64 → k % 16 < b.len → (x : Option ℕ) → start_of x ≡ found_at b a ready (requirement_at a (k / 16)) t (k % 16)
    → Remembered b a ready (set asked k t) (set starts k (unwrap_or x never)) × Through b a ready t (set starts k (unwrap_or x never)) (k + 1)
asked-next b v few a ready w t asked starts kept k l thru room here x e =
    let f = found_at b a ready (requirement_at a (k / 16)) t (k % 16) in
    let now = get_or-set_same starts k (number_of f) 0 (omega (arith, kept.starts_long)) in
    let more = kept-asked b v few a ready w t asked starts kept k l thru room f here refl in
    rw (sym (start-number x) ∙ ap number_of e) (more, through-next b v few a ready w t asked starts kept k l thru _ (through-asked b v few a ready w t asked starts kept k l thru room f here refl) (λ z. now))
