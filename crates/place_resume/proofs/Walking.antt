-- The walk from instant to instant, one diary more at a time.
use mathlib.Core.Path.{◌≡◌, refl, sym, ap, ◌∙◌, subst}
use mathlib.Core.Bool.{Bool, true, false, ◌&&◌, cond, and-true}
use mathlib.Core.List.{List, [], ◌∷◌, ◌++◌, map}
use mathlib.Core.Logic.{◌⊎◌, inl, inr, ⊎_elim}
use Prim.Native.Nat.{ℕ, zero, suc, ◌+◌, ◌^◌, ◌≤◌, ◌<◌, min}
use native.Mathlib.Omega.{arith}
use lib.ListN.{length, get_or, set, take, length-set}
use lib.Seq.{take_all, get_or-set_same, get_or-set_other}
use lib.Dec.{leb, ltb, eqb}
use borrow.Author.Tests.{le-leb, lt-ltb, ltb-true, eq-eqb}
use Rattle.cells.specs.Every.{every, each_end, each_on}
use Rattle.cells.specs.Laws.Every.{every_append}
use Rattle.calendar.specs.declared.Calendar.{Calendar}
use Rattle.cells.specs.Laws.Basics.{lt-or-ge, same_or_not, or-in-left, or-in-right, take_next}
use Rattle.calendar.specs.Search.{Found, nothing, at, when}
use Rattle.calendar.specs.Laws.Searching.{not_at}
use Rattle.calendar.specs.Work.{joint, joint_end}
use Rattle.calendar.specs.Valid as calendar
use Rattle.calendar_work.specs.Layout.{Layout, laid, found_of}
use Rattle.calendar.specs.Add.{no_calendar}
use Rattle.calendar_joint.specs.Layout.{Ruled}
use Rattle.calendar_joint.proofs.Ending.{layout-end}
use Rattle.calendar_joint.proofs.Laying.{layout-part}
use Rattle.std.proofs.Common.{length-take}
use Rattle.std.proofs.lemmas.List.{get_or-take}
use Rattle.timeline.specs.declared.ResourceTimeline.{ResourceTimeline}
use Rattle.timeline.specs.Valid.{valid}
use Rattle.timeline.specs.Earliest.{free_on}
use Rattle.timeline.specs.Laws.Rules.{rules_of}
use Rattle.timeline.specs.Laws.Searching.{Sought, sought-start}
use Rattle.timeline.specs.Steps.{Still}
use Rattle.scheduler.specs.Alone.{Share}
use Rattle.scheduler.specs.Fitting.{among, calendar_of, all_free}
use Rattle.scheduler.specs.Shares.{no_share}
use Rattle.cells.specs.Laws.Each.{each_append}
use Rattle.cells.specs.Laws.Arrays.{each_at, cells-map}
use Rattle.scheduler.specs.Instants.{events, events_of, above}
use Rattle.scheduler.specs.Laws.Events.{among-left, among-right, above-falls}
use Rattle.scheduler.specs.Laws.Asking.{share-event}
use Rattle.timeline_candidates.specs.Steps.{Listed, Event, NextEvent}
use Rattle.timeline.specs.Laws.Stepping.{next-still}
use Rattle.std.specs.Prelude.{Option, Some, None}
use Rattle.std.specs.Bool.{then_some}
use Rattle.calendar.specs.Work.{work_end}
use Rattle.cells.specs.Cells.{before}
use Rattle.scheduler.specs.Laws.Together.{Sound, Calm}
use Rattle.scheduler.specs.Laws.Owning.{suits_on, least_on}
use Rattle.place_resume.specs.Trials.{if_free}
use Rattle.place_resume.proofs.Resuming.{end_free, Least, found, onward, over}

-- with no diary asked, the joint end itself
end-none-asked : (s : ℕ) (f : Found) → f ≡ end_free [] s f
unfolding end_free all_free every
end-none-asked s nothing = refl
end-none-asked s (at e) = refl

-- one diary more
free_more : (xs : List Share) (x : Share) (s e : ℕ) → all_free (xs ++ (x ∷ [])) s e ≡ all_free xs s e && free_on x.timeline x.units s e
unfolding all_free every
free_more xs x s e = every_append (λ (y : Share). free_on y.timeline y.units s e) xs (x ∷ []) ∙ ap (λ (p : Bool). all_free xs s e && p) (and-true (free_on x.timeline x.units s e))

end_more : (xs : List Share) (x : Share) (s : ℕ) (end : Option ℕ) (f : Found) → found_of end ≡ end_free xs s f → found_of (if_free x.timeline x.units s end) ≡ end_free (xs ++ (x ∷ [])) s f
unfolding if_free end_free when
end_more xs x s (Some e) nothing h = absurd (not_at e (sym h))
end_more xs x s None nothing h = refl
end_more xs x s (Some e) (at d) h = go (all_free xs s d) (free_on x.timeline x.units s e) refl refl h
  where
    go : (q p : Bool) → all_free xs s d ≡ q → free_on x.timeline x.units s e ≡ p → at e ≡ cond q (at d) nothing → found_of (then_some p e) ≡ cond (all_free (xs ++ (x ∷ [])) s d) (at d) nothing
    go false p k m j = absurd (not_at e (sym j))
    go true p k m j =
        let z : e ≡ d = ap when j in
        let w = free_more xs x s d ∙ rw (k, ← z, m) refl in
        ends p w z
      where
        ends : (p : Bool) → all_free (xs ++ (x ∷ [])) s d ≡ p → e ≡ d → found_of (then_some p e) ≡ cond (all_free (xs ++ (x ∷ [])) s d) (at d) nothing
        ends true w z = rw (w, z) refl
        ends false w z = rw w refl
end_more xs x s None (at d) h = go (all_free xs s d) refl h
  where
    go : (q : Bool) → all_free xs s d ≡ q → nothing ≡ cond q (at d) nothing → nothing ≡ cond (all_free (xs ++ (x ∷ [])) s d) (at d) nothing
    go true k j = absurd (not_at d j)
    go false k j = rw (free_more xs x s d, k) refl

module _ (xs : List Share) (n work from : ℕ) (stops : List ℕ) where
  abbrev end-from : ℕ → Found
  end-from x = joint_end (map calendar_of xs) x work

  -- the first i are asked at `here`
  pub record Tried (here : ℕ) (end : Option ℕ) (next i : ℕ) : Type 0 where
    pub ends : found_of end ≡ end_free (take i xs) here (end-from here)
    pub later : here < next
    pub listed : (next ≡ 2 ^ 63) ⊎ (among next stops ≡ true)
    pub most : next ≤ 2 ^ 63
    pub calm : (y : ℕ) → here ≤ y → suc y < next → Calm (suc y) (take i xs)

  -- the calendars of the first i are gathered
  pub record Gathers (cs : List Calendar) (i : ℕ) : Type 0 where
    pub long : length cs ≡ 25
    pub cells : (k : ℕ) → k < i → get_or cs k no_calendar ≡ (get_or xs k no_share).timeline.calendar

  -- their joint time is laid out, and nothing suits before `here`
  pub record Walks (edges : List ℕ) (len here : ℕ) : Type 0 where
    pub short : len ≤ 3201
    pub layout : Layout (λ p. leb from p && joint (map calendar_of xs) p) edges len
    pub sought : Sought (suits_on true xs work) from here
    pub most : here ≤ 2 ^ 63

  -- one calendar more
  pub gathers-next : (cs : List Calendar) (i : ℕ) → Gathers cs i → i < 25 → (c : Calendar) → c ≡ (get_or xs i no_share).timeline.calendar → Gathers (set cs i c) (i + 1)
  gathers-next cs i g l c z = record {
    long = length-set cs i c ∙ g.long;
    cells = λ k h.
        ⊎_elim
        (λ (e : i ≡ k). rw (← e) (get_or-set_same cs i c no_calendar (omega (arith, g.long)) ∙ z))
        (λ (e : k ≡ i → ⊥). get_or-set_other cs i k c no_calendar e ∙ g.cells k (omega (arith, e)))
        (same_or_not i k);
  }

  module _ (sound : Sound xs) (long : length xs ≡ n) where
    -- all calendars keep the rules, and are those of all diaries
    pub gathers-ruled : (cs : List Calendar) → Gathers cs n → Ruled cs n
    gathers-ruled cs g k h = ap calendar.valid (g.cells k h) ∙ (rules_of _ (each_at (λ x. valid x.timeline ≡ true) no_share xs sound k (omega (arith, long)))).calendar

    -- those n alone
    pub gathers-front : (cs : List Calendar) → Gathers cs n → n ≤ length cs → Ruled (take n cs) (length (take n cs))
    gathers-front cs g l k h =
        let m : k < n = omega (arith, length-take n cs) in
        rw (get_or-take n cs k no_calendar m) (gathers-ruled cs g k m)

    gathers-all : (cs : List Calendar) → Gathers cs n → n ≤ 25 → take n cs ≡ map calendar_of xs
    gathers-all cs g m = cells-map calendar_of no_share no_calendar n xs cs (omega (arith, long)) (omega (arith, g.long)) (λ k h. g.cells k (omega arith)) ∙ ap (map calendar_of) (take_all n xs (omega (arith, long)))

    -- the joint time is laid out: the walk begins at `from`
    pub walks-begin : (cs : List Calendar) (edges : List ℕ) (len : ℕ) → Gathers cs n → n ≤ 25 → from ≤ 2 ^ 63 → len ≤ 3201 → len ≤ length edges → Layout (λ p. leb from p && joint (take n cs) p) edges len
        → Walks (take len edges) (length (take len edges)) from
    walks-begin cs edges len g m f short l y = record {
      short = omega (arith, length-take len edges);
      layout = subst (λ (zs : List Calendar). Layout (λ p. leb from p && joint zs p) (take len edges) (length (take len edges))) (gathers-all cs g m) (layout-part _ edges len l y);
      sought = sought-start _ from;
      most = f;
    }

    module _ (edges : List ℕ) (len here : ℕ) (w : Walks edges len here) (l : here < 2 ^ 63) where
      -- an instant to try, with no diary asked
      pub tried-none : (end : Option ℕ) → found_of end ≡ work_end (before edges len) (laid edges len) here work → Tried here end (2 ^ 63) 0
      tried-none end e = record {
        ends = e ∙ layout-end (map calendar_of xs) (λ p. leb from p && joint (map calendar_of xs) p) edges len here work w.layout (λ p h. rw (le-leb from p (omega (arith, w.sought.low))) refl) ∙ end-none-asked here (end-from here);
        later = l;
        listed = inl refl;
        most = omega arith;
        calm = λ z a b. each_end;
      }

      -- one diary more asked
      pub tried-next : (end : Option ℕ) (next i : ℕ) → i < n → Tried here end next i → (d : ResourceTimeline) (u c : ℕ) → record { timeline = d; units = u } ≡ get_or xs i no_share → ((y : ℕ) → 1 ≤ y → Event d y → among y stops ≡ true) → NextEvent d here c
          → Tried here (if_free d u here end) (min next c) (i + 1)
      tried-next end next i m t d u c e on v =
          let more = take_next xs i no_share (omega (arith, long)) in
          let x : Share = record { timeline = d; units = u } in
          let zs : take (i + 1) xs ≡ take i xs ++ (x ∷ []) = rw e more in
          record {
            ends = end_more (take i xs) x here end (end-from here) t.ends ∙ ap (λ (ys : List Share). end_free ys here (end-from here)) (sym zs);
            later = omega (arith, t.later, v.next.above);
            listed = least (lt-or-ge c next);
            most = omega (arith, t.most);
            calm = λ y p q. subst (Calm (suc y)) (sym zs) (each_append (λ x. Still x.timeline (suc y)) (take i xs) (x ∷ []) (t.calm y p (omega (arith, q))) (each_on (next-still d here c y v.next p (omega (arith, q))) each_end));
          }
        where
          least : (c < next) ⊎ (next ≤ c) → (min next c ≡ 2 ^ 63) ⊎ (among (min next c) stops ≡ true)
          least (inl h) =
              let z : min next c ≡ c = omega arith in
              rw z (⊎_elim inl (λ (o : Event d c). inr (on c (omega (arith, v.next.above)) o)) v.is)
          least (inr h) =
              let z : min next c ≡ next = omega arith in
              rw z t.listed

      module _ (end : Option ℕ) (next : ℕ) (t : Tried here end next n) where
        ends-all : found_of end ≡ end_free xs here (end-from here)
        ends-all = t.ends ∙ ap (λ (ys : List Share). end_free ys here (end-from here)) (take_all n xs (omega (arith, long)))

        -- all are free: the least start
        pub walks-found : (e : ℕ) → end ≡ Some e → Least xs work from here e
        walks-found e z = found xs sound work from here e w.sought (sym ends-all ∙ ap found_of z)

        -- one is not: the search goes on at the next instant
        pub walks-on : end ≡ None → Walks edges len next
        walks-on z = record {
          short = w.short;
          layout = w.layout;
          sought = onward xs sound work from here next w.sought (sym ends-all ∙ ap found_of z) t.later (λ y a b. subst (Calm (suc y)) (take_all n xs (omega (arith, long))) (t.calm y a b));
          most = t.most;
        }

    pub walks-over : (edges : List ℕ) (len here : ℕ) → Walks edges len here → from ≤ 2 ^ 43 → 2 ^ 63 ≤ here → least_on true xs work from ≡ nothing
    walks-over edges len here w f l = over xs sound work from here f l w.sought

-- the instants left, the one at hand with them
unfoldable pub remaining : List ℕ → ℕ → ℕ
remaining stops here = cond (ltb here (2 ^ 63)) (1 + above stops here) 0

pub remaining-falls : (stops : List ℕ) (here x : ℕ) → here < x → x ≤ 2 ^ 63 → (x ≡ 2 ^ 63) ⊎ (among x stops ≡ true) → remaining stops x < remaining stops here
unfolding remaining
remaining-falls stops here x l m on = rw (lt-ltb here (2 ^ 63) (omega arith)) (go (ltb x (2 ^ 63)) refl)
  where
    go : (q : Bool) → ltb x (2 ^ 63) ≡ q → cond q (1 + above stops x) 0 < 1 + above stops here
    go true e = omega (arith, above-falls stops here x l (⊎_elim (λ (z : x ≡ 2 ^ 63). absurd (omega (arith, ltb-true x (2 ^ 63) e))) (λ (z : among x stops ≡ true). z) on))
    go false e = omega arith

-- an instant that a list of cells holds is among them
listed_in : (xs : List ℕ) (n y : ℕ) → 1 ≤ y → Listed xs n y → among y (take n xs) ≡ true
unfolding among
listed_in [] n y l w = absurd (omega (arith, w.2))
listed_in (x ∷ xs) zero y l w = absurd (omega (arith, w.1))
listed_in (x ∷ xs) (suc n) y l (zero, m, e) = or-in-left (eqb x y) (among y (take n xs)) (eq-eqb x y e)
listed_in (x ∷ xs) (suc n) y l (suc k, m, e) = or-in-right (eqb x y) (among y (take n xs)) (listed_in xs n y l (k, omega arith, e))

-- an event on the i-th diary is one of all
pub event-stop : (xs : List Share) (i x : ℕ) (d : ResourceTimeline) → d ≡ (get_or xs i no_share).timeline → 1 ≤ x → Event d x → among x (events_of xs) ≡ true
unfolding events
event-stop xs i x d e l on = share-event xs i x (ap (λ (y : ResourceTimeline). among x (events y)) (sym e) ∙ ⊎_elim
    (λ (z : Listed d.calendar.windows.starts d.calendar.windows.len x). among-left x W (B ++ C) (listed_in d.calendar.windows.starts d.calendar.windows.len x l z))
    (λ z. among-right x W (B ++ C) (⊎_elim
    (λ (y : Listed d.calendar.blocks.ends d.calendar.blocks.len x). among-left x B C (listed_in d.calendar.blocks.ends d.calendar.blocks.len x l y))
    (λ (y : Listed d.ends d.len x). among-right x B C (listed_in d.ends d.len x l y))
    z))
    on)
  where
    W : List ℕ
    W = take d.calendar.windows.len d.calendar.windows.starts

    B : List ℕ
    B = take d.calendar.blocks.len d.calendar.blocks.ends

    C : List ℕ
    C = take d.len d.ends
