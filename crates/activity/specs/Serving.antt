-- 01, 'Placing': which resources serve a requirement.
use Rattle.std.specs.Prelude.{ℕ, zero, suc, ◌/◌, ◌%◌, Bool, true, cond, ◌&&◌, ◌==◌, nat_le}
use Rattle.calendar.specs.Sets.{bit}
use Rattle.activity.specs.declared.ResourceRequirement.{ResourceRequirement}

-- of the lowest n bits every one that is required is set
unfoldable pub covers : ℕ → ℕ → ℕ → Bool
covers zero need have = true
covers (suc n) need have = nat_le (need % 2) (have % 2) && covers n (need / 2) (have / 2)

-- a resource is in the candidate set, or, that set being empty, has the type
unfoldable pub candidate : ResourceRequirement → ℕ → ℕ → Bool
candidate q number kind = cond (q.candidates == 0) (kind == q.kind) (bit q.candidates number)

-- and serves only when every required bit of the 64 skills is set
unfoldable pub serves : ResourceRequirement → ℕ → ℕ → ℕ → Bool
serves q number kind skills = candidate q number kind && covers 64 q.skills skills
