-- Demand 3 holds.
use Rattle.std.specs.Prelude.{◌≡◌, ◌||◌, cond, List, map, length, drop, ltb}
use Rattle.std.proofs.Math.Path.{refl, sym, ap, subst}
use Rattle.std.proofs.Common.{◌∙◌}
use Rattle.std.proofs.Math.Bool.{not}
use Prim.Native.Nat.{ℕ, zero, suc, ◌≤◌}
use Rattle.std.proofs.Math.ListN.{take}
use Rattle.std.proofs.lemmas.List.{length-map}
use Rattle.std.proofs.Math.Seq.{take_at}
use Rattle.cells.specs.Laws.Basics.{unrefused}
use Rattle.calendar.specs.Search.{nothing, at}
use Rattle.calendar.specs.Valid as calendar
use Rattle.calendar.specs.Laws.Searching.{not_at}
use Rattle.activity.specs.declared.Activity.{Activity}
use Rattle.activity.specs.Ready.{ready_of}
use Rattle.activity.specs.Check.{activity_refusal}
use Rattle.board.specs.declared.Board.{Board}
use Rattle.board.specs.Valid as board
use Rattle.calendar.specs.Refusals.{refused_or}
use Rattle.scheduler.specs.Placing.{Placement, Reply, placed, refused, placing, place_refusal, place_reply, slate_after, choosing_instant, refusal_of}
use Rattle.scheduler.specs.Rows.{Row, row_of}
use Rattle.cells.specs.Every.{Each}
use Rattle.scheduler.specs.Alike.{Alike, NoExtra}
use Rattle.scheduler.proofs.Laws.AlikePlacing.{is_placed, not-placed, placing-unrefused, placing-same, placing-later}
use Rattle.scheduler.specs.Theorems.Demand3.{Demand3}

module _ (b c : Board) (k : Alike b c) (a : Activity) (ready : ℕ) (slate other : List Row) (both : ltb (length slate) 24 ≡ ltb (length other) 24) where
  refusals : place_refusal b a ready (length slate) ≡ place_refusal c a ready (length other)
  unfolding place_refusal
  refusals = rw (k.first_valid, k.second_valid, both) refl

  lawful : place_refusal c a ready (length other) ≡ 0 → activity_refusal a ready ≡ 0
  unfolding place_refusal
  lawful e =
      (unrefused (ltb (length other) 24) 6 (activity_refusal a ready)
      (unrefused (not (board.valid c) || not (calendar.valid a.calendar)) 14 (cond (ltb (length other) 24) 7 (activity_refusal a ready)) e).1).1

  identical : (p : Placement) → place_reply b a ready (length slate) ≡ placed p → Each (λ x. NoExtra b c x.number) p.entries
      → place_reply c a ready (length other) ≡ placed p
  unfolding place_reply refused_or is_placed
  identical p h z =
      go (place_refusal c a ready (length other)) refl
      (subst (λ (n : ℕ). refused_or refused n (placing b a (ready_of a.release ready)) ≡ placed p) refusals h)
    where
      go : (n : ℕ) → place_refusal c a ready (length other) ≡ n → refused_or refused n (placing b a (ready_of a.release ready)) ≡ placed p
          → refused_or refused n (placing c a (ready_of a.release ready)) ≡ placed p
      go zero f g = placing-same b c k a (ready_of a.release ready) ready (lawful f) p g z
      go (suc n) f g = not-placed (refused (suc n)) refl p g

  never : (u : ℕ) → choosing_instant (place_reply c a ready (length other)) ≡ at u → (t : ℕ) × (choosing_instant (place_reply b a ready (length slate)) ≡ at t) × (t ≤ u)
  unfolding place_reply refused_or choosing_instant
  never u h =
      subst (λ (n : ℕ). (t : ℕ) × (choosing_instant (refused_or refused n (placing b a (ready_of a.release ready))) ≡ at t) × (t ≤ u)) (sym refusals)
      (go (place_refusal c a ready (length other)) refl h)
    where
      go : (n : ℕ) → place_refusal c a ready (length other) ≡ n
          → choosing_instant (refused_or refused n (placing c a (ready_of a.release ready))) ≡ at u
          → (t : ℕ) × (choosing_instant (refused_or refused n (placing b a (ready_of a.release ready))) ≡ at t) × (t ≤ u)
      go zero f g = placing-later b c k a (ready_of a.release ready) ready (lawful f) u g
      go (suc n) f g = absurd (not_at u g)

  refusal_is : (d : Board) (n : ℕ) → refusal_of (refused_or refused n (placing d a (ready_of a.release ready))) ≡ refused_or at n nothing
  unfolding refused_or refusal_of
  refusal_is d zero = placing-unrefused d a (ready_of a.release ready)
  refusal_is d (suc n) = refl

  same_numbers : refusal_of (place_reply b a ready (length slate)) ≡ refusal_of (place_reply c a ready (length other))
  unfolding place_reply
  same_numbers = refusal_is b (place_refusal b a ready (length slate)) ∙ ap (λ n. refused_or at n nothing) refusals ∙ sym (refusal_is c (place_refusal c a ready (length other)))

  written : (p : Placement) (r : Reply) (l : List Row) → r ≡ placed p → take (length p.entries) (slate_after r l) ≡ map row_of p.entries
  unfolding slate_after
  written p r l h =
      ap (λ (x : Reply). take (length p.entries) (slate_after x l)) h
      ∙ take_at (map row_of p.entries) (drop (length p.entries) l) (length p.entries) (length-map p.entries row_of)

  pub demand-3 : Demand3 b c a ready slate other
  demand-3 = record {
    same-placement = identical;
    same_rows = λ p h z.
        written p (place_reply c a ready (length other)) other (identical p h z) ∙ sym (written p (place_reply b a ready (length slate)) slate h);
    never-earlier = never;
    same-refusal = same_numbers;
  }
