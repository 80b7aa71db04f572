-- Demand 3 for two calls of `place_activity`: what they answer, and what stands on their slates afterwards.
use Rattle.std.specs.Prelude.{◌≡◌, ℕ, ◌≤◌, Bool, true, false, ltb, List, map, length, take, drop, nat_lt, Result, Ok, Err}
use Rattle.std.specs.Prelude.{refl}
use Rattle.std.proofs.Common.{sym, ◌∙◌, subst}
use Rattle.std.proofs.Math.Path.{ap}
use Rattle.std.proofs.lemmas.List.{length-map}
use Rattle.std.proofs.Math.Seq.{take_at}
use Rattle.cells.specs.Laws.Basics.{not-both}
use Rattle.calendar.specs.Search.{at}
use Rattle.activity.specs.declared.Activity.{Activity}
use Rattle.board.specs.declared.Board.{Board}
use Rattle.scheduler.specs.declared.Entry.{Entry}
use Rattle.scheduler.specs.Placing.{Placement, Reply, placed, chosen_none, none, refused, place_reply, slate_after, choosing_instant, refusal_of}
use Rattle.scheduler.specs.Rows.{Row, row_of, number_in}
use Rattle.cells.specs.Every.{Each}
use Rattle.cells.specs.Laws.Each.{each-of-map}
use Rattle.scheduler.specs.Alike.{Alike, NoExtra}
use Rattle.scheduler.specs.Theorems.Demand3.{Demand3}
use Rattle.scheduler.proofs.Theorems.Demand3.{demand-3}
use Rattle.placing.specs.declared.Placed.{Placed}
use Rattle.placing.specs.declared.PlaceReply.{PlaceReply}
use Rattle.placing.specs.declared.PlaceReply.TheVariants as code
use Rattle.placing.specs.Answers as reply
use Rattle.placing.specs.Answers.{Answer}
use Rattle.calendar.specs.declared.refusal.Refusal.{Refusal}
use Rattle.placing.specs.Told.{placed_of, told, answer_of, instant_of, refused_by}

-- a call on a board with an order, from ready on, over a slate: its answer and the slate afterwards (the contract of `place_activity`)
pub record Called (b : Board) (a : Activity) (ready : ℕ) (slate : List Row) (r : Result PlaceReply Refusal) (after : List Row) : Type 0 where
  pub reply : answer_of r ≡ told (place_reply b a ready (length slate))
  pub rows : after ≡ slate_after (place_reply b a ready (length slate)) slate

-- no extra is on the resource of a row
abbrev pub RowSpared : Board → Board → Row → Type 0
RowSpared b c row = NoExtra b c (number_in row)

-- The first call's answer r and slate `after`, the second's q and `later`, on a board with extra bookings.
pub record Calls (b c : Board) (r : Result PlaceReply Refusal) (after : List Row) (q : Result PlaceReply Refusal) (later : List Row) : Type 0 where
  -- where the first gives a placement and no extra is on a resource it reports, the second answers the same ..
  pub same-placement : (p : Placed) → r ≡ Ok (code.Placed p) → Each (RowSpared b c) (take p.count after) → q ≡ Ok (code.Placed p)
  -- .. with the same rows
  pub same_rows : (p : Placed) → r ≡ Ok (code.Placed p) → Each (RowSpared b c) (take p.count after) → take p.count later ≡ take p.count after
  -- wherever the extras are, the second tells a choosing instant only if the first does, and never an earlier one
  pub never-earlier : (u : ℕ) → instant_of (answer_of q) ≡ at u → (t : ℕ) × (instant_of (answer_of r) ≡ at t) × (t ≤ u)
  -- the second refuses exactly when the first does, with the same number
  pub same-refusal : refused_by (answer_of r) ≡ refused_by (answer_of q)

told-instant : (x : Reply) → instant_of (told x) ≡ choosing_instant x
unfolding instant_of told placed_of choosing_instant
told-instant (placed p) = refl
told-instant (chosen_none t) = refl
told-instant none = refl
told-instant (refused n) = refl

told-refusal : (x : Reply) → refused_by (told x) ≡ refusal_of x
unfolding refused_by told refusal_of
told-refusal (placed p) = refl
told-refusal (chosen_none t) = refl
told-refusal none = refl
told-refusal (refused n) = refl

is_placed : Answer → Bool
is_placed (reply.Placed p) = true
is_placed (reply.ChosenNone t) = false
is_placed reply.None = false
is_placed (reply.Refused n) = false

-- the placement in an answer, else p
placed_in : Placed → Answer → Placed
placed_in p (reply.Placed q) = q
placed_in p (reply.ChosenNone t) = p
placed_in p reply.None = p
placed_in p (reply.Refused n) = p

-- a placement told is one in the definition
told-placed : (x : Reply) (p : Placed) → told x ≡ reply.Placed p → (m : Placement) × (x ≡ placed m) × (placed_of m ≡ p)
unfolding told is_placed placed_in
told-placed (placed m) p h = (m, refl, ap (placed_in p) h)
told-placed (chosen_none u) p h = absurd (not-both true refl (sym (ap is_placed h)))
told-placed none p h = absurd (not-both true refl (sym (ap is_placed h)))
told-placed (refused m) p h = absurd (not-both true refl (sym (ap is_placed h)))

-- and one answered is a placement
answer-placed : (x : Result PlaceReply Refusal) (p : Placed) → answer_of x ≡ reply.Placed p → x ≡ Ok (code.Placed p)
unfolding answer_of is_placed placed_in
answer-placed (Ok (code.Placed q)) p h = ap (λ (y : Placed). Ok (code.Placed y)) (ap (placed_in p) h)
answer-placed (Ok (code.ChosenNone t)) p h = absurd (not-both true refl (sym (ap is_placed h)))
answer-placed (Ok code.None) p h = absurd (not-both true refl (sym (ap is_placed h)))
answer-placed (Err e) p h = absurd (not-both true refl (sym (ap is_placed h)))

placed-answer : (p : Placed) → answer_of (Ok (code.Placed p)) ≡ reply.Placed p
unfolding answer_of
placed-answer p = refl

module _ (b c : Board) (k : Alike b c) (a : Activity) (ready : ℕ) (slate other : List Row)
    (both : ltb (length slate) 24 ≡ nat_lt (length other) 24)
    (r q : Result PlaceReply Refusal) (after later : List Row) (first : Called b a ready slate r after) (second : Called c a ready other q later) where
  theorem : Demand3 b c a ready slate other
  theorem = demand-3 b c k a ready slate other both

  module _ (p : Placed) (h : r ≡ Ok (code.Placed p)) (z : Each (RowSpared b c) (take p.count after)) where
    known : (m : Placement) × (place_reply b a ready (length slate) ≡ placed m) × (placed_of m ≡ p)
    known = told-placed (place_reply b a ready (length slate)) p (sym first.reply ∙ ap answer_of h ∙ placed-answer p)

    abbrev es : List Entry
    es = known.0.entries

    counted : length es ≡ p.count
    unfolding placed_of
    counted = ap (λ (x : Placed). x.count) known.2

    written : take p.count after ≡ map row_of es
    unfolding slate_after
    written =
        ap (take p.count) (first.rows ∙ ap (λ (x : Reply). slate_after x slate) known.1)
        ∙ take_at (map row_of es) (drop (length es) slate) p.count (length-map es row_of ∙ counted)

    free : Each (λ x. NoExtra b c x.number) es
    unfolding row_of
    free = each-of-map (RowSpared b c) row_of es (subst (Each (RowSpared b c)) written z)

    placement : q ≡ Ok (code.Placed p)
    unfolding told
    placement = answer-placed q p (second.reply ∙ ap told (theorem.same-placement known.0 known.1 free) ∙ ap reply.Placed known.2)

    rows : take p.count later ≡ take p.count after
    rows =
        ap (take p.count) second.rows
        ∙ subst (λ (m : ℕ). take m (slate_after (place_reply c a ready (length other)) other) ≡ take m (slate_after (place_reply b a ready (length slate)) slate))
        counted (theorem.same_rows known.0 known.1 free)
        ∙ sym (ap (take p.count) first.rows)

  earlier : (u : ℕ) → instant_of (answer_of q) ≡ at u → (t : ℕ) × (instant_of (answer_of r) ≡ at t) × (t ≤ u)
  earlier u h =
      let w = theorem.never-earlier u (sym (told-instant (place_reply c a ready (length other))) ∙ sym (ap instant_of second.reply) ∙ h) in
      (w.0, ap instant_of first.reply ∙ told-instant (place_reply b a ready (length slate)) ∙ w.1, w.2)

  pub calls-demand-3 : Calls b c r after q later
  calls-demand-3 = record {
    same-placement = placement;
    same_rows = rows;
    never-earlier = earlier;
    same-refusal =
        ap refused_by first.reply ∙ told-refusal (place_reply b a ready (length slate)) ∙ theorem.same-refusal
        ∙ sym (told-refusal (place_reply c a ready (length other))) ∙ sym (ap refused_by second.reply);
  }
