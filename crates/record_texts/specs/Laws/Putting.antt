-- Texts put one behind the other.
use Rattle.std.specs.Prelude.{◌≡◌, List, [], ◌++◌, ℕ, ◌+◌, ◌≤◌, length, take, drop}
use Rattle.std.proofs.Common.{sym, ap, ◌∙◌, append_assoc, append-nil, add-zero, arith, length-append, take-append-drop, length-take-le, take_at, drop_at, drop-drop}
use Rattle.record_texts.specs.Text.{written, Put}

-- a text behind a text is both in one
pub then : {d s x t y : List ℕ} {i j k : ℕ} → j ≤ length d → Put d i s x j → Put x j t y k → Put d i (s ++ t) y k
unfolding written
then {d} {s} {x} {t} {y} {i} {j} {k} h p q =
    record {
      bytes = q.bytes ∙ ap (λ (l : List ℕ). written l j t) p.bytes ∙ ap (λ (n : ℕ). written (written d i s) n t) p.end ∙ both (omega (arith, p.end));
      end = omega (arith, p.end, q.end, length-append s t);
    }
  where
    both : i + length s ≤ length d → written (written d i s) (i + length s) t ≡ written d i (s ++ t)
    both l =
        let p : length (take i d ++ s) ≡ i + length s = rw (length-append, length-take-le i d (omega arith)) in
        let e : i + length s + length t ≡ i + length (s ++ t) = omega (arith, length-append s t) in
        let q : drop (i + length s + length t) (take i d ++ s ++ drop (i + length s) d) ≡ drop (i + length (s ++ t)) d =
        sym (drop-drop (length t) (i + length s) (take i d ++ s ++ drop (i + length s) d))
        ∙ ap (drop (length t)) (drop_at (take i d ++ s) (drop (i + length s) d) (i + length s) p)
        ∙ drop-drop (length t) (i + length s) d
        ∙ ap (λ (k : ℕ). drop k d) e in
        rw (q, take_at (take i d ++ s) (drop (i + length s) d) (i + length s) p, append_assoc (take i d) s t)

-- no text leaves the buffer as it was
pub put-none : (d : List ℕ) (i : ℕ) → Put d i [] d i
unfolding written
put-none d i = record { bytes = sym (rw (add-zero i, append-nil (take i d)) (take-append-drop i d)); end = sym (add-zero i) }
