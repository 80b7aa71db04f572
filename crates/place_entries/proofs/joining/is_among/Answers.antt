-- `place_entries::joining::is_among` meets its contract.
use Rattle.std.proofs.Common.{◌∙◌, rules, tests, eqb}
use Rattle.std.proofs.lemmas.Iterator.{YieldsList-from_slice}
use Rattle.std.proofs.lemmas.Iterator.Search.{any_from_yields_List}
use Rattle.scheduler.specs.declared.Entry.{Entry}
use Rattle.place_entries.proofs.Once.{any-among}
use Rattle.place_entries.proofs.joining.is_among.Goals as goal

pub returns : goal.returns
returns c =
    let es = c.args.entries.now in
    any_from_yields_List (λ (x : Entry). eqb x.number c.args.number) _ _ _ c.any.ensures.ran (YieldsList-from_slice es cc) (λ x b q k. search (rules, tests)) ∙ any-among c.args.number es
