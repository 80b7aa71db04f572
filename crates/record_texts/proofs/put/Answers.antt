-- `record_texts::put` meets its contract: what was there, with the text put in its place.
use Rattle.std.proofs.Common.{◌≡◌, ℕ, ◌+◌, ◌-◌, List, ◌++◌, length, take, drop, refl, sym, ◌∙◌, ap, arith, drop-drop, append_assoc}
use Rattle.record_texts.specs.Text.{written}
use Rattle.record_texts.proofs.put.Goals as goal

pasted : (d s : List ℕ) (i : ℕ) → take i d ++ (s ++ drop (length s) (drop i d)) ≡ written d i s
unfolding written
pasted d s i = ap (λ (x : List ℕ). take i d ++ (s ++ x)) (drop-drop (length s) i d) ∙ sym (append_assoc (take i d) s (drop (i + length s) d))

pub returns : goal.returns
returns c =
    let n = length c.args.src.now in
    let e : c.args.at + n - c.args.at ≡ n = omega arith in
    record { bytes = rw (c.copy_from_slice.ensures.after, e) (pasted _ _ _); end = refl }
