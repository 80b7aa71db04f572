-- What choosing and placing amount to on a board that keeps the rules.
use Rattle.std.specs.Prelude.{◌≡◌, true, List, ◌∷◌, ℕ, ◌≤◌}
use Rattle.std.proofs.Common.{sym, subst, ⊎_elim, arith}
use Rattle.calendar.specs.Search.{Earliest}
use Rattle.calendar.specs.Valid as calendar
use Rattle.activity.specs.declared.ResourceRequirement.{ResourceRequirement}
use Rattle.activity.specs.declared.Activity.{Activity}
use Rattle.activity.specs.Check.{requirements_of, activity_refusal}
use Rattle.board.specs.declared.Board.{Board}
use Rattle.board.specs.Valid as board
use Rattle.scheduler.specs.Choosing.{Held, Choice, no_choice, chosen, choosing}
use Rattle.scheduler.specs.Fitting.{entries_of, span_together}
use Rattle.scheduler.specs.Placing.{fitted, fit_chosen, by_requirements, placing}
use Rattle.scheduler.specs.Plain.{enough, held_at, Chooses}
use Rattle.scheduler.specs.Laws.Events.{above-length}
use Rattle.scheduler.proofs.Laws.Chosen.{rounds-mean}
use Rattle.scheduler.specs.Laws.Ruled.{points-length}
use Rattle.scheduler.proofs.Laws.Ruled.{all-kept, all_listed}
use Rattle.scheduler.specs.Instants.{points}
use Rattle.activity.specs.Laws.Judging.{some-of-each}
use Rattle.scheduler.specs.Laws.Reported.{held-at-whole, entries-sound}
use Rattle.scheduler.specs.Theorems.Meaning.{fitted-means, Placing, never, unfit, fit}

-- The choice on a board that keeps the rules: the choosing instant is the least instant from ready on at which every requirement has its
-- quantity of resources that can start at that instant itself, and held are the first of those by process, then board order; there is
-- no choice only if there is no such instant, however late.
pub choosing-means : (b : Board) → board.valid b ≡ true → (a : Activity) (ready : ℕ) (q : ResourceRequirement) (qs : List ResourceRequirement)
    → requirements_of a ≡ q ∷ qs → 1 ≤ q.quantity
    → Chooses (enough b a ready (q ∷ qs)) (held_at b a ready (q ∷ qs)) ready (choosing b a ready)
unfolding choosing
choosing-means b v a ready q qs asks some =
    rounds-mean b a ready (all-kept b v a ready) (points b a ready) (all_listed b v a ready) q qs asks some 10000
    (omega (arith, above-length (points b a ready) ready, points-length b v a ready))

pub placing-means : (b : Board) → board.valid b ≡ true → (a : Activity) → calendar.valid a.calendar ≡ true → (ready from : ℕ)
    → activity_refusal a from ≡ 0 → (q : ResourceRequirement) (qs : List ResourceRequirement) → requirements_of a ≡ q ∷ qs
    → Placing b a ready (q ∷ qs) (placing b a ready)
unfolding placing by_requirements fit_chosen
placing-means b v a own ready from lawful q qs asks = rw asks (go (choosing b a ready) (choosing-means b v a ready q qs asks (some-of-each a from q qs asks lawful)))
  where
    held : (t : ℕ) → Earliest (enough b a ready (q ∷ qs)) ready t
        → Placing b a ready (q ∷ qs) (fitted b a (span_together a (held_at b a ready (q ∷ qs) t)) t (entries_of a (held_at b a ready (q ∷ qs) t)))
    held t w =
        let hs = held_at b a ready (q ∷ qs) t in
        ⊎_elim
        (λ k. subst (Placing b a ready (q ∷ qs)) (sym k.1) (fit t k.0 w k.2))
        (λ k. subst (Placing b a ready (q ∷ qs)) (sym k.0) (unfit t w k.1))
        (fitted-means b a (span_together a hs) t (entries_of a hs) (entries-sound b v a hs (held-at-whole b a ready v (q ∷ qs) t)) own)

    go : (f : Choice) → Chooses (enough b a ready (q ∷ qs)) (held_at b a ready (q ∷ qs)) ready f → Placing b a ready (q ∷ qs) (fit_chosen b a f)
    go no_choice w = never w
    go (chosen t hs) w = subst (λ (l : List Held). Placing b a ready (q ∷ qs) (fitted b a (span_together a l) t (entries_of a l))) (sym w.1) (held t w.0)
