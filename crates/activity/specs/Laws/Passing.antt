-- A loop over the requirements: the quantity of those that are left.
use Rattle.std.specs.Prelude.{◌≡◌, ℕ, ◌+◌, ◌<◌, ◌≤◌, List, length, take, drop, slice_index_or}
use Rattle.std.proofs.Math.Path.{refl}
use Rattle.std.proofs.Common.{add-one, arith, drop_of_length-le, length-take}
use Rattle.std.proofs.Math.Seq.{drop-cons, get_or-take}
use Rattle.activity.specs.declared.ResourceRequirement.{ResourceRequirement}
use Rattle.activity.specs.Check.{quantity, no_requirement}

module _ (qs : List ResourceRequirement) (i : ℕ) where
  pub left-step : i < length qs → quantity (drop i qs) ≡ (slice_index_or qs i no_requirement).quantity + quantity (drop (i + 1) qs)
  unfolding quantity
  left-step lt = rw (add-one, drop-cons qs i no_requirement lt) refl

  pub left-end : length qs ≤ i → quantity (drop i qs) ≡ 0
  unfolding quantity
  left-end le = rw (drop_of_length-le qs {i = i} le) refl

-- the first n of them
module _ (qs : List ResourceRequirement) (n i : ℕ) where
  pub quantity-step : i < n → n ≤ length qs → quantity (drop i (take n qs)) ≡ (slice_index_or qs i no_requirement).quantity + quantity (drop (i + 1) (take n qs))
  quantity-step lt le = rw (← get_or-take n qs i no_requirement lt) (left-step (take n qs) i (simp length-take (omega arith)))

  pub quantity-end : n ≤ i → quantity (drop i (take n qs)) ≡ 0
  quantity-end le = left-end (take n qs) i (simp length-take (omega arith))
