-- The candidates, place by place: sorted as they come in board order, and those of the definition.
use mathlib.Core.Path.{◌≡◌, refl, sym, ap, ◌∙◌, subst}
use mathlib.Core.Bool.{true, cond}
use mathlib.Core.List.{List, [], ◌∷◌, ◌++◌, map, append_assoc, append-nil}
use Prim.Native.Nat.{ℕ, zero, suc, ◌+◌, ◌^◌, ◌≤◌, ◌<◌}
use native.Mathlib.Omega.{arith}
use lib.ListN.{length, take}
use lib.Seq.{take-suc}
use Rattle.activity.specs.declared.ResourceRequirement.{ResourceRequirement}
use Rattle.activity.specs.declared.Activity.{Activity}
use Rattle.activity.specs.Serving.{serves}
use Rattle.activity.specs.Check.{activity_refusal}
use Rattle.board.specs.declared.Resource.{Resource}
use Rattle.board.specs.declared.Board.{Board}
use Rattle.board.specs.Resources.{no_resource, resource_at}
use Rattle.board.specs.Valid as board
use Rattle.scheduler.specs.Alone.{duration_alone, start_alone}
use Rattle.scheduler.proofs.Laws.Answering.{told}
use Rattle.scheduler.specs.Choosing as scheduler
use Rattle.cells.specs.Every.{Each, each_end}
use Rattle.scheduler.specs.Laws.Ruled.{all_there}
use Rattle.place_rounds.specs.declared.rank.Candidate.{Candidate}
use Rattle.place_rounds.specs.declared.rank.Ranked.{Ranked}
use Rattle.place_rounds.specs.Named.{candidate_of, ranked_of, put_in, precedes}
use Rattle.place_rounds.specs.Tables.{found_at, number_of}
use Rattle.place_rounds.proofs.Finding.{number_at, number-none, found-range}
use Rattle.place_rounds.specs.Rounds.{answer_at, answers_to, Fair}
use Rattle.place_rounds.proofs.Inserting.{put_is}
use Rattle.scheduler.specs.Laws.Ranking.{each-insert}

-- sorted: one behind the other
sort-more : (s cs ds : List scheduler.Candidate) → scheduler.sort_into s (cs ++ ds) ≡ scheduler.sort_into (scheduler.sort_into s cs) ds
unfolding scheduler.sort_into
sort-more s [] ds = refl
sort-more s (c ∷ cs) ds = sort-more (scheduler.insert c s) cs ds

-- the candidates of the first i places, sorted
pub record SortedTo (b : Board) (a : Activity) (ready : ℕ) (q : ResourceRequirement) (t i : ℕ) (k : Ranked) : Type 0 where
  pub few : k.count ≤ i
  pub so : ranked_of b k ≡ scheduler.sort (answers_to b a ready q t i)
  pub fair : Each (Fair b) (take k.count k.candidates)

module _ (b : Board) (a : Activity) (ready : ℕ) (q : ResourceRequirement) (t : ℕ) where
  pub sorted-start : (k : Ranked) → k.count ≡ 0 → SortedTo b a ready q t 0 k
  unfolding answers_to scheduler.sort_into
  sorted-start k e = record { few = omega arith; so = rw e refl; fair = subst (λ (n : ℕ). Each (Fair b) (take n k.candidates)) (sym e) each_end }

  next : (i : ℕ) → scheduler.sort (answers_to b a ready q t (i + 1)) ≡ scheduler.sort_into (scheduler.sort (answers_to b a ready q t i)) (answer_at b a ready q t i)
  unfolding answers_to
  next i =
      let z : i + 1 ≡ suc i = omega arith in
      rw z (sort-more [] (answers_to b a ready q t i) (answer_at b a ready q t i))

  -- no answer
  sorted-off : (i : ℕ) (k : Ranked) → SortedTo b a ready q t i k → answer_at b a ready q t i ≡ [] → SortedTo b a ready q t (i + 1) k
  unfolding scheduler.sort_into
  sorted-off i k s e = record { few = omega (arith, s.few); so = s.so ∙ sym (next i ∙ ap (scheduler.sort_into (scheduler.sort (answers_to b a ready q t i))) e); fair = s.fair }

  -- one candidate more
  sorted_on : (i : ℕ) (k r : Ranked) (c : Candidate) → SortedTo b a ready q t i k → answer_at b a ready q t i ≡ candidate_of b c ∷ [] → Fair b c
      → r.count ≡ k.count + 1 → take r.count r.candidates ≡ put_in c (take k.count k.candidates) → SortedTo b a ready q t (i + 1) r
  unfolding scheduler.sort_into
  sorted_on i k r c s e f n w = record {
    few = omega (arith, s.few);
    so = ap (map (candidate_of b)) w ∙ put_is b c (take k.count k.candidates) ∙ ap (scheduler.insert (candidate_of b c)) s.so ∙ sym (next i ∙ ap (scheduler.sort_into (scheduler.sort (answers_to b a ready q t i))) e);
    fair = subst (Each (Fair b)) (sym w) (each-insert precedes (Fair b) c (take k.count k.candidates) f s.fair);
  }

-- they are those of the definition
candidates-more : (b : Board) (a : Activity) (ready : ℕ) (q : ResourceRequirement) (t : ℕ) (rs ss : List Resource) → scheduler.candidates b a ready q t (rs ++ ss) ≡ scheduler.candidates b a ready q t rs ++ scheduler.candidates b a ready q t ss
unfolding scheduler.candidates
candidates-more b a ready q t [] ss = refl
candidates-more b a ready q t (r ∷ rs) ss =
    let one : List scheduler.Candidate = cond (serves q r.number r.kind r.skills) (scheduler.answer (duration_alone a r).process r (start_alone b a ready q r t)) [] in
    ap (λ (l : List scheduler.Candidate). one ++ l) (candidates-more b a ready q t rs ss) ∙ sym (append_assoc one (scheduler.candidates b a ready q t rs) (scheduler.candidates b a ready q t ss))

module _ (b : Board) (v : board.valid b ≡ true) (a : Activity) (ready : ℕ) (q : ResourceRequirement) (t : ℕ) where
  answer-is : (i : ℕ) → i < b.len → answer_at b a ready q t i ≡ scheduler.candidates b a ready q t (resource_at b i ∷ [])
  unfolding answer_at found_at scheduler.answer scheduler.candidates
  answer-is i l = sym (told b a ready q (resource_at b i) (serves q (resource_at b i).number (resource_at b i).kind (resource_at b i).skills) (start_alone b a ready q (resource_at b i) t)) ∙ sym (append-nil _)

  pub answers-to : (n : ℕ) → n ≤ b.len → answers_to b a ready q t n ≡ scheduler.candidates b a ready q t (take n b.resources)
  unfolding answers_to scheduler.candidates
  answers-to zero l = refl
  answers-to (suc n) l =
      let m : n < length b.resources = omega (arith, all_there b v) in
      rw (answers-to n (omega arith), answer-is n (omega arith), take-suc b.resources n no_resource m) (sym (candidates-more b a ready q t (take n b.resources) (resource_at b n ∷ [])))

-- a turn of the loop over the table: a start, or none
module _ (b : Board) (v : board.valid b ≡ true) (a : Activity) (ready : ℕ) (w : activity_refusal a ready ≡ 0) (q : ResourceRequirement) (i : ℕ) (l : i < b.len)
    (t : ℕ) (m : t ≤ 2 ^ 43) (x : ℕ) (e : x ≡ number_of (found_at b a ready q t i)) (k : Ranked) (s : SortedTo b a ready q t i k) where
  pub turn-none : 2 ^ 63 ≤ x → SortedTo b a ready q t (i + 1) k
  unfolding answer_at scheduler.answer
  turn-none h = sorted-off b a ready q t i k s (rw (number-none (found_at b a ready q t i) (omega arith) (λ y f. found-range b v a ready w q i l t y m f)) refl)

  pub turn_on : (r : Ranked) → x < 2 ^ 63 → r.count ≡ k.count + 1
      → take r.count r.candidates ≡ put_in (record { start = x; process = (duration_alone a (resource_at b i)).process; place = i }) (take k.count k.candidates) → SortedTo b a ready q t (i + 1) r
  unfolding answer_at scheduler.answer candidate_of
  turn_on r h n o =
      let f = number_at (found_at b a ready q t i) x e h in
      sorted_on b a ready q t i k r (record { start = x; process = (duration_alone a (resource_at b i)).process; place = i }) s (rw f refl)
      (record { stands = l; soon = found-range b v a ready w q i l t x m f }) n o
