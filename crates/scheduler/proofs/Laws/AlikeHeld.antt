-- Alike boards: what can start, what is held and the entries, where no extra is on those held and their companions.
use Rattle.std.specs.Prelude.{◌≡◌, Bool, ◌&&◌, ◌||◌, cond, length, take, leb, eqb}
use Rattle.std.proofs.Math.Path.{refl, ap, fun_ext}
use Rattle.std.proofs.Common.{sym, ◌∙◌, subst, ⊎_elim, arith}
use Rattle.std.proofs.Math.Bool.{true, false}
use mathlib.Core.List.{List, [], ◌∷◌, ◌++◌, map}
use Prim.Native.Nat.{ℕ, suc, ◌+◌, ◌-◌, ◌≤◌, max}
use borrow.Author.Tests.{leb-true, le-leb, eqb-true, eq-eqb}
use Rattle.calendar.specs.declared.Calendar.{Calendar}
use Rattle.cells.specs.Laws.Basics.{and_split, and-join, not-both, or-in-left, or-in-right, or_cases, both_ways}
use Rattle.calendar.specs.Search.{Found, nothing, at, least_from, greatest_of}
use Rattle.calendar.specs.Fits.{fits}
use Rattle.calendar.specs.Work.{last_change, joint_end}
use Rattle.timeline.specs.Earliest.{last_event}
use Rattle.timeline.specs.Bookings.{bookings, latest_end}
use Rattle.timeline.specs.Theorems.Meaning.{latest-more}
use Rattle.activity.specs.declared.ActivityDuration.{ActivityDuration}
use Rattle.activity.specs.declared.ResourceRequirement.{ResourceRequirement}
use Rattle.activity.specs.declared.Activity.{Activity}
use Rattle.activity.specs.Durations.{duration_on}
use Rattle.board.specs.declared.Resource.{Resource}
use Rattle.board.specs.declared.Board.{Board}
use Rattle.board.specs.Resources.{resources_of}
use Rattle.board.specs.Setups.{setup_on}
use Rattle.scheduler.specs.Alone.{Share, all_start, last_of, diary_of, companions_of}
use Rattle.scheduler.specs.Choosing.{Candidate, sort, Held, held_for, hold_first}
use Rattle.scheduler.specs.declared.Entry.{Entry}
use Rattle.scheduler.specs.Fitting.{number_of, numbers_of, duration_together, entry_of, held_entries, among, join_each, all_companions}
use Rattle.scheduler.specs.Entries.{held_entry, companion_entry}
use Rattle.scheduler.specs.Fitting.{companion_entries, entries_of, span_together, share_of, shares_of}
use Rattle.scheduler.specs.Fitting.{fits_all, all_free, free_to_end, calendar_of, calendars_of, starts_all, suits, last_all, fitting, end_of}
use Rattle.scheduler.specs.Placing.{ended, started, fitted}
use Rattle.scheduler.specs.Plain.{starts_there, candidate_at, startable, enough, held_at}
use Rattle.cells.specs.Every.{Each, each_end, each_on, Pairs, pairs_end, pairs_on}
use Rattle.cells.specs.Laws.Each.{each_weaken, each-in-map, each-of-map, each_left, each_right, pairs-map, pairs-map-each, pairs-append}
use Rattle.scheduler.specs.Laws.Ranking.{length-sort}
use Rattle.scheduler.specs.Laws.Events.{among-append}
use Rattle.scheduler.specs.Alike.{Alike, NoExtra}
use Rattle.scheduler.specs.Laws.AlikeDiaries.{AlikeShare, all-less, all-free-less, diaries-alike, diaries-same}
use Rattle.scheduler.proofs.Laws.AlikeResources.{Twin, twins, Clean, companions-twin, duration-twin, setup-twin, starts-less, starts-same}
use Rattle.scheduler.proofs.Laws.Dropping.{Sub, sub_end, sub_keep, sub_drop, sub-sort, sub-take}

module _ (b c : Board) (k : Alike b c) (a : Activity) (ready : ℕ) where
  pub record TwinCandidate (x y : Candidate) : Type 0 where
    pub start_same : x.start ≡ y.start
    pub process_same : x.process ≡ y.process
    pub twin : Twin b c x.resource y.resource

  pub record TwinHeld (x y : Held) : Type 0 where
    pub start_same : x.start ≡ y.start
    pub usage_same : x.usage ≡ y.usage
    pub twin : Twin b c x.resource y.resource

  abbrev Unclean : Candidate → Type 0
  Unclean x = Clean b c k x.resource → ⊥

  -- those that can start on the second board are some of those that can on the first; only one with extras falls out
  startable-sub : (q : ResourceRequirement) (t : ℕ) (rs ss : List Resource) → Pairs (Twin b c) rs ss
      → Sub Unclean TwinCandidate (startable b a ready q t rs) (startable c a ready q t ss)
  unfolding startable
  startable-sub q t [] (s ∷ ss) x'' = elim x'' [ ]
  startable-sub q t (r ∷ rs) [] x3 = elim x3 [ ]
  startable-sub q t [] [] pairs_end = sub_end
  startable-sub q t (r ∷ rs) (s ∷ ss) (pairs_on w p) = go (starts_there b a ready q r t) (starts_there c a ready q s t) refl refl (startable-sub q t rs ss p)
    where
      go : (u v : Bool) → starts_there b a ready q r t ≡ u → starts_there c a ready q s t ≡ v → Sub Unclean TwinCandidate (startable b a ready q t rs) (startable c a ready q t ss)
          → Sub Unclean TwinCandidate (cond u (candidate_at a t r ∷ startable b a ready q t rs) (startable b a ready q t rs))
          (cond v (candidate_at a t s ∷ startable c a ready q t ss) (startable c a ready q t ss))
      go true true e f i = sub_keep (record { start_same = refl; process_same = ap (λ (d : ActivityDuration). d.process) (duration-twin b c k a r s w); twin = w }) i
      go true false e f i = sub_drop (λ z. not-both (starts_there c a ready q s t) (starts-same b c k a r s w ready q t z e) f) i
      go false true e f i = absurd (not-both (starts_there b a ready q r t) (starts-less b c k a r s w ready q t f) e)
      go false false e f i = i

  sub-length : (xs ys : List Candidate) → Sub Unclean TwinCandidate xs ys → length ys ≤ length xs
  sub-length [] (y ∷ ys) x'' = elim x'' [ ]
  sub-length [] [] sub_end = omega arith
  sub-length (x ∷ xs) (y ∷ ys) (sub_keep r s) = omega (arith, sub-length xs ys s)
  sub-length (x ∷ xs) ys (sub_drop d s) = omega (arith, sub-length xs ys s)

  -- enough on the second board: enough on the first
  pub enough-less : (qs : List ResourceRequirement) (t : ℕ) → enough c a ready qs t ≡ true → enough b a ready qs t ≡ true
  unfolding enough
  enough-less [] t e = refl
  enough-less (q ∷ qs) t e =
      let f = startable b a ready q t (resources_of b) in
      let g = startable c a ready q t (resources_of c) in
      let w = and_split (leb q.quantity (length g)) (enough c a ready qs t) e in
      and-join (leb q.quantity (length f)) (enough b a ready qs t)
      (le-leb q.quantity (length f) (omega (arith, leb-true q.quantity (length g) w.0, sub-length f g (startable-sub q t (resources_of b) (resources_of c) (twins b c k)))))
      (enough-less qs t w.1)

  held-pairs : (q : ResourceRequirement) (xs ys : List Candidate) → Pairs TwinCandidate xs ys → Pairs TwinHeld (map (held_for q) xs) (map (held_for q) ys)
  held-pairs q [] (y ∷ ys) x'' = elim x'' [ ]
  held-pairs q (x ∷ xs) [] x4 = elim x4 [ ]
  held-pairs q [] [] pairs_end = pairs_end
  held-pairs q (x ∷ xs) (y ∷ ys) (pairs_on w p) = pairs_on (record { start_same = w.start_same; usage_same = refl; twin = w.twin }) (held-pairs q xs ys p)

  clean-held : (q : ResourceRequirement) (xs : List Candidate) → Each (λ h. Clean b c k h.resource) (map (held_for q) xs) → Each (λ x. Unclean x → ⊥) xs
  clean-held q xs z = each_weaken (λ x. Clean b c k x.resource) (λ x. Unclean x → ⊥) xs (λ x p f. f p) (each-of-map (λ h. Clean b c k h.resource) (held_for q) xs z)

  -- where no extra is on those held and their companions, the second board has enough too and holds the same
  pub held_same : (qs : List ResourceRequirement) (t : ℕ) → Each (λ h. Clean b c k h.resource) (held_at b a ready qs t) → enough b a ready qs t ≡ true
      → (enough c a ready qs t ≡ true) × Pairs TwinHeld (held_at b a ready qs t) (held_at c a ready qs t)
  unfolding enough held_at hold_first
  held_same [] t z e = (refl, pairs_end)
  held_same (q ∷ qs) t z e =
      let f = startable b a ready q t (resources_of b) in
      let g = startable c a ready q t (resources_of c) in
      let w = and_split (leb q.quantity (length f)) (enough b a ready qs t) e in
      let front = each_left {A = Held} (λ h. Clean b c k h.resource) (hold_first q (sort f)) (held_at b a ready qs t) z in
      let rest = each_right {A = Held} (λ h. Clean b c k h.resource) (hold_first q (sort f)) (held_at b a ready qs t) z in
      let s = sub-sort Unclean TwinCandidate (λ x y r. r.start_same) (λ x y r. r.process_same) f g (startable-sub q t (resources_of b) (resources_of c) (twins b c k)) in
      let p = sub-take Unclean TwinCandidate (λ x y r. r.start_same) (λ x y r. r.process_same) q.quantity (sort f) (sort g) s (clean-held q (take q.quantity (sort f)) front) (omega (arith, length-sort [] f, leb-true q.quantity (length f) w.0)) in
      let i = held_same qs t rest w.1 in (
        and-join (leb q.quantity (length g)) (enough c a ready qs t) (le-leb q.quantity (length g) (omega (arith, length-sort [] g, p.1))) i.0,
        pairs-append TwinHeld (hold_first q (sort f)) (hold_first q (sort g)) (held_at b a ready qs t) (held_at c a ready qs t) (held-pairs q (take q.quantity (sort f)) (take q.quantity (sort g)) p.0) i.1,
      )

  numbers-same : (hs ks : List Held) → Pairs TwinHeld hs ks → numbers_of hs ≡ numbers_of ks
  numbers-same [] (j ∷ ks) x'' = elim x'' [ ]
  numbers-same (h ∷ hs) [] x3 = elim x3 [ ]
  numbers-same [] [] pairs_end = refl
  numbers-same (h ∷ hs) (j ∷ ks) (pairs_on w p) = rw (w.twin.alike.number_same, numbers-same hs ks p) refl

  companions_same : (hs ks : List Held) → Pairs TwinHeld hs ks → all_companions hs ≡ all_companions ks
  unfolding all_companions
  companions_same [] (j ∷ ks) x'' = elim x'' [ ]
  companions_same (h ∷ hs) [] x3 = elim x3 [ ]
  companions_same [] [] pairs_end = refl
  companions_same (h ∷ hs) (j ∷ ks) (pairs_on w p) = rw (companions-twin b c k a h.resource j.resource w.twin, companions_same hs ks p) refl

  entry-same : (setup : ℕ) (h j : Held) → TwinHeld h j → entry_of a.category setup h ≡ entry_of a.category setup j
  entry-same setup h j w =
      let e : h.resource.number ≡ j.resource.number = w.twin.alike.number_same in
      let f : setup_on h.resource a.category setup ≡ setup_on j.resource a.category setup = setup-twin b c k a h.resource j.resource w.twin a.category setup in
      let g : h.usage ≡ j.usage = w.usage_same in
      λ i. held_entry (e i) (f i) (g i)

  held-entries-same : (setup : ℕ) (hs ks : List Held) → Pairs TwinHeld hs ks → held_entries a.category setup hs ≡ held_entries a.category setup ks
  held-entries-same setup [] (j ∷ ks) x'' = elim x'' [ ]
  held-entries-same setup (h ∷ hs) [] x3 = elim x3 [ ]
  held-entries-same setup [] [] pairs_end = refl
  held-entries-same setup (h ∷ hs) (j ∷ ks) (pairs_on w p) = rw (entry-same setup h j w, held-entries-same setup hs ks p) refl

  pub entries-same : (hs ks : List Held) → Pairs TwinHeld hs ks → (entries_of a hs ≡ entries_of a ks) × (span_together a hs ≡ span_together a ks)
  unfolding entries_of span_together companion_entries duration_together
  entries-same hs ks p =
      let n = numbers-same hs ks p in
      let m = companions_same hs ks p in
      let d : duration_on a.duration a.timings (numbers_of hs) ≡ duration_on a.duration a.timings (numbers_of ks) = ap (duration_on a.duration a.timings) n in
      let s = (duration_on a.duration a.timings (numbers_of ks)).setup in
      let e = held-entries-same s hs ks p in
      (rw (d, n, m, e) refl, rw (d, e) refl)

-- among a list on which N holds of each
each-among : (N : ℕ → Type 0) (n : ℕ) (ns : List ℕ) → Each N ns → among n ns ≡ true → N n
unfolding among
each-among N n [] each_end e = absurd (not-both true refl (sym e))
each-among N n (m ∷ ns) (each_on p a) e = go (eqb m n) refl e (each-among N n ns a)
  where
    go : (q : Bool) → eqb m n ≡ q → q || among n ns ≡ true → (among n ns ≡ true → N n) → N n
    go true f h i = subst N (eqb-true m n f) p
    go false f h i = i h

join-keeps : (held : List ℕ) (n : ℕ) (joined cs : List ℕ) → among n joined ≡ true → among n (join_each held joined cs) ≡ true
unfolding join_each
join-keeps held n joined [] e = e
join-keeps held n joined (c ∷ cs) e = go (among c held || among c joined) (join-keeps held n joined cs e) (join-keeps held n (joined ++ (c ∷ [])) cs (among-append n joined (c ∷ []) ∙ or-in-left (among n joined) (among n (c ∷ [])) e))
  where
    go : (q : Bool) → among n (join_each held joined cs) ≡ true → among n (join_each held (joined ++ (c ∷ [])) cs) ≡ true
        → among n (join_each held (cond q joined (joined ++ (c ∷ []))) cs) ≡ true
    go true f g = f
    go false f g = g

-- each companion is held or joins
join-each : (held : List ℕ) (joined cs : List ℕ) → Each (λ c. among c held || among c (join_each held joined cs) ≡ true) cs
unfolding join_each among
join-each held joined [] = each_end
join-each held joined (c ∷ cs) = go (among c held) (among c joined) refl refl (join-each held joined cs) (join-each held (joined ++ (c ∷ [])) cs)
  where
    Goal : List ℕ → Type 0
    Goal j = Each (λ d. among d held || among d (join_each held j cs) ≡ true) (c ∷ cs)

    go : (p q : Bool) → among c held ≡ p → among c joined ≡ q → Each (λ d. among d held || among d (join_each held joined cs) ≡ true) cs
        → Each (λ d. among d held || among d (join_each held (joined ++ (c ∷ [])) cs) ≡ true) cs
        → Goal (cond (p || q) joined (joined ++ (c ∷ [])))
    go true q e f i j = each_on (or-in-left (among c held) (among c (join_each held joined cs)) e) i
    go false true e f i j = each_on (or-in-right (among c held) (among c (join_each held joined cs)) (join-keeps held c joined cs f)) i
    go false false e f i j =
        each_on (or-in-right (among c held) (among c (join_each held (joined ++ (c ∷ [])) cs))
        (join-keeps held c (joined ++ (c ∷ [])) cs (among-append c joined (c ∷ []) ∙ or-in-right (among c joined) (eqb c c || false) (or-in-left (eqb c c) false (eq-eqb c c refl))))) j

module _ (N : ℕ → Type 0) (a : Activity) where
  covered : (held joined cs : List ℕ) → Each N held → Each N joined → Each (λ c. among c held || among c joined ≡ true) cs → Each N cs
  covered held joined [] x y each_end = each_end
  covered held joined (n ∷ cs) x y (each_on p z) =
      each_on
      (⊎_elim (λ (e : among n held ≡ true). each-among N n held x e) (λ (e : among n joined ≡ true). each-among N n joined y e) (or_cases (among n held) (among n joined) p))
      (covered held joined cs x y z)

  -- what holds of every entry's resource holds of all held and all their companions
  pub entries-each : (hs : List Held) → Each (λ e. N e.number) (entries_of a hs) → Each N (numbers_of hs) × Each N (all_companions hs)
  unfolding entries_of companion_entries
  entries-each hs z =
      let E = held_entries a.category (duration_together a hs).setup hs in
      let J = join_each (numbers_of hs) [] (all_companions hs) in
      let x = each-in-map N number_of hs (each-of-map (λ e. N e.number) (entry_of a.category (duration_together a hs).setup) hs (each_left {A = Entry} (λ e. N e.number) E (map companion_entry J) z)) in
      let y = each-of-map (λ e. N e.number) companion_entry J (each_right {A = Entry} (λ e. N e.number) E (map companion_entry J) z) in
      (x, covered (numbers_of hs) J (all_companions hs) x y (join-each (numbers_of hs) [] (all_companions hs)))

module _ (b c : Board) (k : Alike b c) where
  split-clean : (hs : List Held) → Each (NoExtra b c) (numbers_of hs) → Each (NoExtra b c) (all_companions hs) → Each (λ h. Clean b c k h.resource) hs
  unfolding all_companions
  split-clean [] each_end y = each_end
  split-clean (h ∷ hs) (each_on p x) y =
      each_on (record { itself = p; others = each_left (NoExtra b c) (companions_of h.resource) (all_companions hs) y })
      (split-clean hs x (each_right (NoExtra b c) (companions_of h.resource) (all_companions hs) y))

  -- no extra on a reported resource: none on those held and their companions
  pub clean-held-all : (a : Activity) (hs : List Held) → Each (λ e. NoExtra b c e.number) (entries_of a hs) → Each (λ h. Clean b c k h.resource) hs
  clean-held-all a hs z = let w = entries-each (NoExtra b c) a hs z in split-clean hs w.0 w.1

  -- the shares of the entries are the same both ways
  forth : (es : List Entry) → Pairs AlikeShare (shares_of b es) (shares_of c es)
  forth es = pairs-map AlikeShare (share_of b) (share_of c) es (λ e. record { units_same = refl; alike = diaries-alike b c k e.number })

  back : (es : List Entry) → Each (λ e. NoExtra b c e.number) es → Pairs AlikeShare (shares_of c es) (shares_of b es)
  back es z = pairs-map-each (λ e. NoExtra b c e.number) AlikeShare (share_of c) (share_of b) es (λ e p. record { units_same = refl; alike = diaries-same b c k e.number p }) z

  calendars-same : (es : List Entry) → map calendar_of (shares_of b es) ≡ map calendar_of (shares_of c es)
  calendars-same [] = refl
  calendars-same (e ∷ es) = rw ((diaries-alike b c k e.number).calendar_same, calendars-same es) refl

  last_same : (es : List Entry) → Each (λ e. NoExtra b c e.number) es → last_of (shares_of b es) ≡ last_of (shares_of c es)
  unfolding last_of last_event greatest_of
  last_same [] each_end = refl
  last_same (e ∷ es) (each_on p z) =
      let w = diaries-alike b c k e.number in
      let f : latest_end (bookings (diary_of b e.number)) ≡ latest_end (bookings (diary_of c e.number))
      = omega (arith, latest-more (bookings (diary_of b e.number)) (bookings (diary_of c e.number)) w.more, latest-more (bookings (diary_of c e.number)) (bookings (diary_of b e.number)) p) in
      let g : last_change ((diary_of b e.number).calendar ∷ []) ≡ last_change ((diary_of c e.number).calendar ∷ []) = ap (λ (x : Calendar). last_change (x ∷ [])) w.calendar_same in
      omega (arith, last_same es z)

  module _ (a : Activity) (es : List Entry) (clean : Each (λ e. NoExtra b c e.number) es) where
    abbrev xs : List Share
    xs = shares_of b es

    abbrev ys : List Share
    ys = shares_of c es

    ends_same : (s span : ℕ) → joint_end (calendars_of xs a.calendar) s span ≡ joint_end (calendars_of ys a.calendar) s span
    ends_same s span = ap (λ (cs : List Calendar). joint_end (a.calendar ∷ cs) s span) (calendars-same es)

    free-end-same : (s : ℕ) (f : Found) → free_to_end xs s f ≡ free_to_end ys s f
    unfolding free_to_end
    free-end-same s nothing = refl
    free-end-same s (at e) = both_ways (all_free xs s e) (all_free ys s e) (all-free-less ys xs s e (back es clean)) (all-free-less xs ys s e (forth es))

    suits-same : (resumable : Bool) (span s : ℕ) → suits resumable xs a.calendar span s ≡ suits resumable ys a.calendar span s
    unfolding suits starts_all fits_all
    suits-same true span s = ap (free_to_end xs s) (ends_same s span) ∙ free-end-same s (joint_end (calendars_of ys a.calendar) s span)
    suits-same false span s =
        ap (λ (p : Bool). p && fits a.calendar s (s + span))
        (both_ways (all_start false span xs s) (all_start false span ys s) (all-less false span ys xs s (back es clean)) (all-less false span xs ys s (forth es)))

    fitting-same : (resumable : Bool) (span t : ℕ) → fitting resumable xs a.calendar span t ≡ fitting resumable ys a.calendar span t
    unfolding fitting last_all
    fitting-same resumable span t =
        ap (λ (P : ℕ → Bool). least_from P t (suc (max (last_change (a.calendar ∷ [])) (last_of xs) - t))) (fun_ext (suits-same resumable span))
        ∙ ap (λ (l : ℕ). least_from (suits resumable ys a.calendar span) t (suc (max (last_change (a.calendar ∷ [])) l - t))) (last_same es clean)

    end_same : (resumable : Bool) (span s : ℕ) → end_of resumable xs a.calendar span s ≡ end_of resumable ys a.calendar span s
    unfolding end_of
    end_same true span s = ends_same s span
    end_same false span s = refl

    -- the same entries fit alike on both boards
    pub fitted-same : (span t : ℕ) → fitted b a span t es ≡ fitted c a span t es
    unfolding fitted started
    fitted-same span t = ap (started a.resumable xs a span t es) (fitting-same a.resumable span t) ∙ go (fitting a.resumable ys a.calendar span t)
      where
        go : (f : Found) → started a.resumable xs a span t es f ≡ started a.resumable ys a span t es f
        go nothing = refl
        go (at s) = ap (ended t s es) (end_same a.resumable span s)
