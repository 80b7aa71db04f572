-- `place_entries::push_each` meets its contract: the numbers of `more` stand behind those before.
use Rattle.std.proofs.Common.{◌≡◌, ◌+◌, ◌-◌, ◌++◌, ◌∙◌, ℕ, List, take, length, ap, refl, sym, subst, arith, rules}
use Rattle.std.proofs.lemmas.Slice.{take-put_mid}
use Rattle.cells.specs.Every.{Each}
use Rattle.cells.specs.Laws.Each.{each_append}
use Rattle.place_entries.specs.Cells.{Small}
use Rattle.place_entries.proofs.push_each.Goals as goal

pub returns : goal.returns
returns c =
    let a = c.args in
    let q = c.requires in
    let m = length a.more.now in
    let long : length a.list.numbers ≡ 32 = search rules in
    let after = c.copy_from_slice.ensures.after in
    let e =
    take-put_mid a.list.len (a.list.len + m - a.list.len) a.list.numbers c.copy_from_slice.new.self (a.list.len + m) (ap (λ (xs : List ℕ). a.list.len + length xs) (sym after)) (omega (arith, long, q.0))
    ∙ ap (λ (xs : List ℕ). take a.list.len a.list.numbers ++ xs) after in
    (refl, e, subst (Each Small) (sym e) (each_append Small _ _ q.1 q.2))
