-- A board whose numbers are all different has a place left for a number that it has not.
use Rattle.std.proofs.Common.{lt-ltb, sym, ◌∙◌, arith}
use Rattle.std.specs.Prelude.{true, false, ◌≡◌, refl, ℕ, zero, suc, ◌≤◌, ◌<◌, ltb}
use Rattle.calendar.specs.Search.{least_from, is_at}
use Rattle.board.specs.Resources.{number_at, lookup_to, on_board}
use Rattle.board.specs.Valid.{valid}
use Rattle.board.specs.declared.Board.{Board}
use Rattle.board.specs.Laws.Facts.{resource-number, BoardRules, rules_of}
use Rattle.board.specs.Laws.Counts.{count_to, count_none, count-more, count-short}
use Rattle.board.specs.Laws.Seeing.{lookup-here, lookup-there}

-- each of the first i resources has a number of its own
held-len : (b : Board) → BoardRules b → (i : ℕ) → i ≤ b.len → count_to (λ n. is_at (lookup_to b i n)) 16 ≡ i
unfolding lookup_to least_from is_at
held-len b r zero l = count_none (λ n. is_at (lookup_to b 0 n)) (λ k. refl) 16
held-len b r (suc i) l =
    let new = r.new i (omega arith) in
    let q : ltb (number_at b i) 16 ≡ true = lt-ltb (number_at b i) 16 (omega (arith, resource-number _ (r.right i (omega arith)))) in
    count-more (λ n. is_at (lookup_to b i n)) (λ n. is_at (lookup_to b (suc i) n)) (number_at b i) new (rw (lookup-here b i new) refl) (λ k ne. rw (lookup-there b i k (λ e. ne (sym e))) refl) 16
    ∙ rw (q, held-len b r i (omega arith)) (omega arith)

pub place-left : (b : Board) (number : ℕ) → valid b ≡ true → number ≤ 15 → on_board b number ≡ false → b.len < 16
place-left b number v l e =
    let r = rules_of b v in
    omega (arith, count-short (λ n. is_at (lookup_to b b.len n)) 16 number (omega arith) e, held-len b r b.len (omega arith))
