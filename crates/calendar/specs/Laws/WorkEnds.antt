-- When work ends: the working milliseconds counted, and the end that `work_end` answers for any working time; then that joint working
-- time changes no more from its last change on.
use Rattle.std.specs.Prelude.{◌≡◌, refl, Bool, true, false, cond, List, [], ◌∷◌, ◌⊎◌, ℕ, zero, suc, ◌+◌, ◌-◌, ◌≤◌, ◌<◌}
use Rattle.std.proofs.Common.{sym, ap, ◌∙◌, inl, inr, ⊎_elim, eq-or-lt_of_le, arith}
use Rattle.calendar.specs.declared.Calendar.{Calendar}
use Rattle.cells.specs.Laws.Basics.{lt-or-ge, not-both}
use Rattle.calendar.specs.Search.{Found, nothing, at, greatest_of}
use Rattle.calendar.specs.Spans.{Span, spans, any, contains}
use Rattle.calendar.specs.Fits.{open_for}
use Rattle.cells.specs.Every.{every}
use Rattle.calendar.specs.Work.{working, joint, end_from, work_end, latest, last_change}
use Rattle.calendar.specs.Laws.Spanning.{contains-no}
use Rattle.calendar.specs.Laws.Searching.{not_at}
use Rattle.calendar.specs.Plain.{worked, Ends}

worked-split : (W : ℕ → Bool) (p a b : ℕ) → worked W p (a + b) ≡ worked W p a + worked W (p + a) b
unfolding worked
worked-split W p zero b =
    let e : 0 + b ≡ b = omega arith in
    let f : p + 0 ≡ p = omega arith in
    rw (e, f) (omega arith)
worked-split W p (suc a) b =
    let e : suc a + b ≡ suc (a + b) = omega arith in
    let f : p + suc a ≡ suc p + a = omega arith in
    rw (e, f) (omega (arith, worked-split W (suc p) a b))

worked-on : (W : ℕ → Bool) (p n : ℕ) → ((q : ℕ) → p ≤ q → W q ≡ true) → worked W p n ≡ n
unfolding worked
worked-on W p zero f = refl
worked-on W p (suc n) f = rw (worked, f p (omega arith)) (omega (arith, worked-on W (suc p) n (λ q h. f q (omega arith))))

worked-off : (W : ℕ → Bool) (p n : ℕ) → ((q : ℕ) → p ≤ q → W q ≡ false) → worked W p n ≡ 0
unfolding worked
worked-off W p zero f = refl
worked-off W p (suc n) f = rw (worked, f p (omega arith)) (omega (arith, worked-off W (suc p) n (λ q h. f q (omega arith))))

one_more : (W : ℕ → Bool) (p y : ℕ) → p < y → worked W p (y - p) ≡ cond (W p) 1 0 + worked W (suc p) (y - suc p)
unfolding worked
one_more W p y h =
    let e : y - p ≡ suc (y - suc p) = omega arith in
    rw e refl

-- one millisecond earlier
ends-back : (W : ℕ → Bool) (p v w e k : ℕ) → cond (W p) 1 0 ≡ k → k + v ≡ w → 0 < w → Ends W (suc p) v e → Ends W p w e
unfolding worked
ends-back W p v w e k c s z r = record {
  low = omega (arith, r.low);
  done = omega (arith, one_more W p e r.low, r.done);
  first = λ y a b.
      ⊎_elim
      (λ (q : p ≡ y).
      let t : y - p ≡ 0 = omega arith in
      rw t z)
      (λ (q : p < y). omega (arith, one_more W p y q, r.first y q b))
      (eq-or-lt_of_le a);
}

end-found : (W : ℕ → Bool) (p w n e : ℕ) → end_from W p w n ≡ at e → Ends W p w e × (e ≤ p + n)
unfolding end_from worked
end-found W p zero n e q =
    let z : p ≡ e = cc in
    let y : e - p ≡ 0 = omega arith in
    (record { low = omega arith; done = rw y refl; first = λ y a b. absurd (omega arith) }, omega arith)
end-found W p (suc w) zero e q = absurd (not_at e q)
end-found W p (suc w) (suc n) e q = go (W p) refl q (end-found W (suc p) w n e) (end-found W (suc p) (suc w) n e)
  where
    go : (b : Bool) → W p ≡ b → elim b [ true ↦ end_from W (suc p) w n | false ↦ end_from W (suc p) (suc w) n ] ≡ at e
        → (end_from W (suc p) w n ≡ at e → Ends W (suc p) w e × (e ≤ suc p + n)) → (end_from W (suc p) (suc w) n ≡ at e → Ends W (suc p) (suc w) e × (e ≤ suc p + n))
        → Ends W p (suc w) e × (e ≤ p + suc n)
    go true t f ih jh = (ends-back W p w (suc w) e 1 (rw t refl) (omega arith) (omega arith) (ih f).0, omega (arith, (ih f).1))
    go false t f ih jh = (ends-back W p (suc w) (suc w) e 0 (rw t refl) (omega arith) (omega arith) (jh f).0, omega (arith, (jh f).1))

end_none : (W : ℕ → Bool) (p w n : ℕ) → end_from W p w n ≡ nothing → worked W p n < w
unfolding end_from worked
end_none W p zero n q = absurd (not_at p (sym q))
end_none W p (suc w) zero q = omega arith
end_none W p (suc w) (suc n) q = go (W p) q (end_none W (suc p) w n) (end_none W (suc p) (suc w) n)
  where
    go : (b : Bool) → elim b [ true ↦ end_from W (suc p) w n | false ↦ end_from W (suc p) (suc w) n ] ≡ nothing
        → (end_from W (suc p) w n ≡ nothing → worked W (suc p) n < w) → (end_from W (suc p) (suc w) n ≡ nothing → worked W (suc p) n < suc w)
        → cond b 1 0 + worked W (suc p) n < suc w
    go true f ih jh = omega (arith, ih f)
    go false f ih jh = omega (arith, jh f)

-- From `last` on W changes no more.
abbrev pub Changeless : ℕ → (ℕ → Bool) → Type 0
Changeless last W = (q : ℕ) → last ≤ q → W q ≡ W last

-- `work_end` answers with the least end ..
pub work-end-found : (last : ℕ) (W : ℕ → Bool) (p w e : ℕ) → work_end last W p w ≡ at e → (W p ≡ true) × Ends W p w e
unfolding work_end
work-end-found last W p w e q = go (W p) refl q
  where
    go : (b : Bool) → W p ≡ b → elim b [ true ↦ end_from W p w (last - p + w) | false ↦ nothing ] ≡ at e → (b ≡ true) × Ends W p w e
    go true t f = (refl, (end-found W p w (last - p + w) e f).0)
    go false t f = absurd (not_at e f)

-- .. and with nothing exactly from a pause, or where there are never w working milliseconds from p on, however far one looks
pub work-end-none : (last : ℕ) (W : ℕ → Bool) (p w : ℕ) → Changeless last W → work_end last W p w ≡ nothing → (W p ≡ false) ⊎ ((n : ℕ) → worked W p n < w)
unfolding work_end
work-end-none last W p w steady q = go (W p) refl q
  where
    K : ℕ
    K = last - p + w

    far : worked W p K < w → (b : Bool) → W last ≡ b → (n : ℕ) → worked W p n < w
    far h true t n =
        let z = worked-split W p (last - p) w in
        absurd (omega (arith, z, worked-on W (p + (last - p)) w (λ r l. steady r (omega arith) ∙ t)))
    far h false t n =
        ⊎_elim
        (λ (l : n < K).
        let e : n + (K - n) ≡ K = omega arith in
        omega (arith, ap (worked W p) e, worked-split W p n (K - n)))
        (λ (l : K ≤ n).
        let e : K + (n - K) ≡ n = omega arith in
        omega (arith, ap (worked W p) e, worked-split W p K (n - K), worked-off W (p + K) (n - K) (λ r m. steady r (omega arith) ∙ t)))
        (lt-or-ge n K)

    go : (b : Bool) → W p ≡ b → elim b [ true ↦ end_from W p w (last - p + w) | false ↦ nothing ] ≡ nothing → (b ≡ false) ⊎ ((n : ℕ) → worked W p n < w)
    go true t f = inr (far (end_none W p w K f) (W last) refl)
    go false t f = inl refl

-- Both the other way round: an end that is least is the answer.
ends_same : (W : ℕ → Bool) (p w d e : ℕ) → Ends W p w d → Ends W p w e → d ≡ e
ends_same W p w d e a b =
    ⊎_elim
    (λ (z : d < e). absurd (omega (arith, a.done, b.first d a.low z)))
    (λ (z : e ≤ d). ⊎_elim (λ (q : e ≡ d). sym q) (λ (q : e < d). absurd (omega (arith, b.done, a.first e b.low q))) (eq-or-lt_of_le z))
    (lt-or-ge d e)

pub work-end-is : (last : ℕ) (W : ℕ → Bool) (p w e : ℕ) → Changeless last W → W p ≡ true → Ends W p w e → work_end last W p w ≡ at e
work-end-is last W p w e steady t r = go (work_end last W p w) refl
  where
    go : (f : Found) → work_end last W p w ≡ f → f ≡ at e
    go nothing q =
        absurd (⊎_elim (λ (z : W p ≡ false). not-both (W p) t z) (λ (z : (n : ℕ) → worked W p n < w). omega (arith, z (e - p), r.done)) (work-end-none last W p w steady q))
    go (at d) q = ap at (ends_same W p w d e (work-end-found last W p w d q).1 r)

pub work-end-never : (last : ℕ) (W : ℕ → Bool) (p w : ℕ) → (W p ≡ false) ⊎ ((n : ℕ) → worked W p n < w) → work_end last W p w ≡ nothing
work-end-never last W p w n = go (work_end last W p w) refl
  where
    go : (f : Found) → work_end last W p w ≡ f → f ≡ nothing
    go nothing q = refl
    go (at e) q =
        let r = work-end-found last W p w e q in
        absurd (⊎_elim (λ (z : W p ≡ false). not-both (W p) r.0 z) (λ (z : (m : ℕ) → worked W p m < w). omega (arith, z (e - p), r.1.done)) n)

-- So it makes no difference which instant is given from which W changes no more, nor what W is before p.
worked_same : (W U : ℕ → Bool) (p n : ℕ) → ((q : ℕ) → p ≤ q → W q ≡ U q) → worked W p n ≡ worked U p n
unfolding worked
worked_same W U p zero e = refl
worked_same W U p (suc n) e = rw (worked, e p (omega arith), worked_same W U (suc p) n (λ q h. e q (omega arith))) refl

ends-like : (W U : ℕ → Bool) (p w e : ℕ) → ((q : ℕ) → p ≤ q → W q ≡ U q) → Ends W p w e → Ends U p w e
ends-like W U p w e f r = record {
  low = r.low;
  done = sym (worked_same W U p (e - p) f) ∙ r.done;
  first = λ y a b. omega (arith, worked_same W U p (y - p) f, r.first y a b);
}

pub work-end-same : (last until : ℕ) (W U : ℕ → Bool) (p w : ℕ) → Changeless last W → Changeless until U → ((q : ℕ) → p ≤ q → W q ≡ U q) → work_end last W p w ≡ work_end until U p w
work-end-same last until W U p w s t e = go (work_end last W p w) refl
  where
    go : (f : Found) → work_end last W p w ≡ f → f ≡ work_end until U p w
    go nothing q =
        sym (work-end-never until U p w (⊎_elim
        (λ (z : W p ≡ false). inl (sym (e p (omega arith)) ∙ z))
        (λ (z : (n : ℕ) → worked W p n < w). inr (λ n. omega (arith, worked_same W U p n e, z n)))
        (work-end-none last W p w s q)))
    go (at d) q =
        let r = work-end-found last W p w d q in
        sym (work-end-is until U p w d t (sym (e p (omega arith)) ∙ r.0) (ends-like W U p w d e r.1))

-- From a working start one millisecond earlier, work ends no later.
pub work-end-back : (last : ℕ) (W : ℕ → Bool) (p w e : ℕ) → Changeless last W → W p ≡ true → work_end last W (suc p) w ≡ at e → (d : ℕ) × (work_end last W p w ≡ at d) × (d ≤ e)
work-end-back last W p w e s t q = go (work_end last W p w) refl
  where
    r : Ends W (suc p) w e
    r = (work-end-found last W (suc p) w e q).1

    enough : worked W p (e - p) ≡ 1 + w
    enough = one_more W p e r.low ∙ rw (t, r.done) refl

    go : (f : Found) → work_end last W p w ≡ f → (d : ℕ) × (work_end last W p w ≡ at d) × (d ≤ e)
    go nothing u =
        absurd (⊎_elim (λ (z : W p ≡ false). not-both (W p) t z) (λ (z : (n : ℕ) → worked W p n < w). omega (arith, z (e - p), enough)) (work-end-none last W p w s u))
    go (at d) u =
        let v = (work-end-found last W p w d u).1 in
        let low : d ≤ e = ⊎_elim (λ (z : e < d). absurd (omega (arith, enough, v.first e (omega (arith, r.low)) z))) (λ (z : d ≤ e). z) (lt-or-ge e d) in
        (d, u, low)

-- From its latest end on a list of spans contains no instant ..
past_all : (l : List Span) (q : ℕ) → latest l ≤ q → any (contains q) l ≡ false
unfolding latest any greatest_of
past_all [] q h = refl
past_all (w ∷ l) q h = rw (contains-no q w (λ a b. omega arith), past_all l q (omega arith)) refl

open-past : (l : List Span) (q r : ℕ) → latest l ≤ q → latest l ≤ r → open_for (contains q) l ≡ open_for (contains r) l
unfolding open_for
open-past [] q r a b = refl
open-past (w ∷ l) q r a b = past_all (w ∷ l) q a ∙ sym (past_all (w ∷ l) r b)

joint-past : (cs : List Calendar) (q r : ℕ) → last_change cs ≤ q → last_change cs ≤ r → joint cs q ≡ joint cs r
unfolding joint every last_change working greatest_of
joint-past [] q r a b = refl
joint-past (c ∷ cs) q r a b =
    rw (open-past (spans c.windows) q r (omega arith) (omega arith), past_all (spans c.blocks) q (omega arith), past_all (spans c.blocks) r (omega arith), joint-past cs q r (omega arith) (omega arith)) refl

-- .. so joint working time changes no more from the last change on.
pub joint-changeless : (cs : List Calendar) → Changeless (last_change cs) (joint cs)
joint-changeless cs q h = joint-past cs q (last_change cs) h (omega arith)
