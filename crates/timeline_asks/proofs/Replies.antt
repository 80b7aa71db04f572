-- What asking a diary replies, by what the search found and by the refusal.
use mathlib.Core.Path.{◌≡◌, refl, sym, ◌∙◌}
use mathlib.Core.Bool.{true, false, ◌||◌}
use Prim.Native.Nat.{ℕ, suc, ◌+◌, ◌-◌, ◌≤◌}
use native.Mathlib.Omega.{arith}
use lib.Dec.{ltb}
use borrow.Author.Tests.{ltb-false}
use Rattle.calendar.specs.Limits.{last_asked, longest_span, most_units}
use Rattle.cells.specs.Laws.Basics.{or_left, or_right, unrefused}
use Rattle.calendar.specs.Refusals.{refused_or}
use Rattle.calendar.specs.Laws.Refusals.{refused-by}
use Rattle.calendar.specs.Search.{Found, nothing, at}
use Rattle.calendar.specs.Laws.Searching.{least-found}
use Rattle.timeline.specs.declared.ResourceTimeline.{ResourceTimeline}
use Rattle.timeline.specs.Valid.{valid}
use Rattle.timeline.specs.Earliest.{fits_at, last_event, earliest_fit}
use Rattle.timeline.specs.Ask.{AskReply, fit, none, refused, unbroken, ended, ask_refusal, asked}
use Rattle.timeline.specs.Laws.Rules.{rules_of}
use Rattle.timeline.specs.Laws.Stepping.{last-range}

-- the replies of an ask
module _ (t : ResourceTimeline) (from span u : ℕ) (reply : AskReply) where
  pub asked-15 : valid t ≡ false → refused 15 ≡ asked t from span u reply
  unfolding asked
  asked-15 v = rw v refl

  pub asked-refused : (n : ℕ) → valid t ≡ true → n ≡ ask_refusal from span u → (n ≡ 0 → ⊥) → refused n ≡ asked t from span u reply
  unfolding asked
  asked-refused n v e h = rw (v, ← e) (refused-by refused n reply h)

  pub asked-reply : (n : ℕ) → valid t ≡ true → n ≡ ask_refusal from span u → n ≡ 0 → reply ≡ asked t from span u reply
  unfolding asked refused_or
  asked-reply n v e h = rw (v, sym e ∙ h) refl

-- what no refusal says
pub record Asked (from span u : ℕ) : Type 0 where
  pub from_range : from ≤ last_asked
  pub span_range : span ≤ longest_span
  pub some : 1 ≤ u

pub lawful : (from span u : ℕ) → ask_refusal from span u ≡ 0 → Asked from span u
unfolding ask_refusal
lawful from span u z =
    let x = unrefused (ltb last_asked from || ltb longest_span span) 0 _ z in
    let y = unrefused (ltb u 1 || ltb most_units u) 2 0 x.1 in
    record {
      from_range = ltb-false last_asked from (or_left (ltb last_asked from) (ltb longest_span span) x.0);
      span_range = ltb-false longest_span span (or_right (ltb last_asked from) (ltb longest_span span) x.0);
      some = ltb-false u 1 (or_left (ltb u 1) (ltb most_units u) y.0);
    }

-- a start lies at or before the later of the asked instant and the last event
pub fit-range : (t : ResourceTimeline) → valid t ≡ true → (from span u x : ℕ) → from ≤ last_asked → earliest_fit t from span u ≡ at x → x ≤ last_asked
unfolding earliest_fit
fit-range t v from span u x a e = omega (arith, (least-found (fits_at t span u) from (suc (last_event t - from)) x e).1, last-range t (rules_of t v))

pub unbroken-at : (span s : ℕ) (f : Found) → f ≡ at s → fit s (s + span) ≡ unbroken span f
unfolding unbroken
unbroken-at span s f e = rw e refl

pub unbroken-none : (span : ℕ) (f : Found) → f ≡ nothing → none ≡ unbroken span f
unfolding unbroken
unbroken-none span f e = rw e refl

pub ended_at : (s e : ℕ) (f : Found) → f ≡ at e → fit s e ≡ ended s f
unfolding ended
ended_at s e f q = rw q refl

pub ended-none : (s : ℕ) (f : Found) → f ≡ nothing → none ≡ ended s f
unfolding ended
ended-none s f q = rw q refl
