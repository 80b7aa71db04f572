-- An accepted entry leaves a valid board valid, and so does a refused one, which changes nothing.
use borrow.Author.Tests.{not-false}
use Rattle.std.proofs.Math.Bool.{true, not}
use Rattle.std.specs.Prelude.{◌&&◌, ◌||◌, List, ◌≡◌, refl, ℕ, ℤ, length}
use Rattle.std.proofs.Math.Dec.{leb}
use Rattle.cells.specs.Laws.Basics.{and_split, unrefused}
use Rattle.board.specs.Enter.{add_resource_reply, matrix_refusal, new_matrix, set_matrix_reply, entry_refusal, set_transition_reply, set_initial_reply, set_transport_reply, put_refusal, put_timeline_reply}
use Rattle.board.specs.Resources.{new_resource, with_matrix, with_timeline, resource_at, on_board}
use Rattle.board.specs.Valid.{duration_right, entry_right, valid}
use Rattle.board.specs.declared.Board.{Board}
use Rattle.board.specs.Laws.Facts.{rules_of}
use Rattle.board.specs.Theorems.Meaning.{resource-rules}
use Rattle.board_resources.specs.Laws.Replying.{add-taken}
use Rattle.board_transport.proofs.Replying.{transport-taken}
use Rattle.board.specs.Laws.Keeping.{changed-keeps}
use Rattle.timeline.specs.declared.ResourceTimeline.{ResourceTimeline}
use Rattle.timeline.specs.Valid as timeline
use Rattle.board_resources.specs.Laws.Keeping.{entered-keeps, remade, rewritten, new-right, of_right, transition-right, initial-right, transport-kept-with, new-resource, valid-new, third}

module _ (b : Board) (long : length b.resources ≡ 16) (v : valid b ≡ true) where
  pub set-matrix-keeps : (number : ℕ) (d i : ℤ) → valid (set_matrix_reply b number d i).board ≡ true
  unfolding set_matrix_reply matrix_refusal
  set-matrix-keeps number d i =
      entered-keeps _ b _ v (λ z.
      let w = and_split (duration_right d) (duration_right i) (third (valid b) (on_board b number) (duration_right d && duration_right i) z) in
      changed-keeps b number (with_matrix (new_matrix d i)) long v (λ k l. (remade _ _ ((rules_of b v).right k l) (new-right d i w.0 w.1), refl)))

  pub set-transition-keeps : (number last this : ℕ) (ms : ℤ) → valid (set_transition_reply b number last this ms).board ≡ true
  unfolding set_transition_reply entry_refusal
  set-transition-keeps number last this ms =
      entered-keeps _ b _ v (λ z.
      let w = third (valid b) (on_board b number && (leb last 15 && leb this 15)) (entry_right ms) z in
      changed-keeps b number _ long v (λ k l.
      let r = (rules_of b v).right k l in
      let o = of_right (resource_at b k).matrix (resource-rules _ r).matrix in
      (remade _ _ r (transition-right _ last this ms o.1 o.0 w), refl)))

  pub set-initial-keeps : (number category : ℕ) (ms : ℤ) → valid (set_initial_reply b number category ms).board ≡ true
  unfolding set_initial_reply entry_refusal
  set-initial-keeps number category ms =
      entered-keeps _ b _ v (λ z.
      let w = third (valid b) (on_board b number && leb category 15) (entry_right ms) z in
      changed-keeps b number _ long v (λ k l.
      let r = (rules_of b v).right k l in
      let o = of_right (resource_at b k).matrix (resource-rules _ r).matrix in
      (remade _ _ r (initial-right _ category ms o.1 o.0 w), refl)))

  pub put-timeline-keeps : (number : ℕ) (t : ResourceTimeline) → valid (put_timeline_reply b number t).board ≡ true
  unfolding put_timeline_reply put_refusal
  put-timeline-keeps number t =
      entered-keeps _ b _ v (λ z.
      let w = (unrefused (not (valid b) || not (timeline.valid t)) 14 _ z).0 in
      let u : timeline.valid t ≡ true = not-false _ (rw v at w) in
      changed-keeps b number (with_timeline t) long v (λ k l. (rewritten _ t ((rules_of b v).right k l) u, refl)))

  pub set-transport-keeps : length b.transport ≡ 256 → (from to ms : ℕ) → valid (set_transport_reply b from to ms).board ≡ true
  unfolding set_transport_reply
  set-transport-keeps wide from to ms = entered-keeps _ b _ v (λ z. transport-kept-with b from to ms v wide (transport-taken b from to ms z))

  pub add-resource-keeps : (number kind skills : ℕ) (companions : List ℕ) (t : ResourceTimeline) → valid (add_resource_reply b number kind skills companions t).board ≡ true
  unfolding add_resource_reply
  add-resource-keeps number kind skills companions t =
      entered-keeps _ b _ v (λ z.
      let w = add-taken b number companions t z in
      valid-new b (new_resource number kind skills companions t) long v w.room (new-resource number kind skills companions t w.low w.few w.each w.diary) w.new)
