-- `place_entries::greatest_setup` meets its contract.
use Rattle.std.proofs.Common.{ap, ◌∙◌, rules, tests}
use Rattle.std.specs.Option.{unwrap_or}
use Rattle.std.proofs.lemmas.Iterator.{YieldsList-from_slice, YieldsList-from_map}
use Rattle.std.proofs.lemmas.Iterator.Consumers.{reduce_from_yields_List}
use Rattle.std.proofs.lemmas.List.Folds.{max_of_map}
use Rattle.scheduler.specs.declared.Entry.{Entry}
use Rattle.place_entries.proofs.Greatest.{greatest-is}
use Rattle.place_entries.proofs.greatest_setup.Goals as goal

pub returns : goal.returns
returns c =
    let es = c.args.entries.now in
    c.unwrap_or.ensures
    ∙ ap (λ o. unwrap_or o 0) (reduce_from_yields_List _ c.map.result _ c.max.ensures.ran (YieldsList-from_map _ (λ (x : Entry). x.setup) (YieldsList-from_slice es cc) c.map.ensures.closure (λ x b q k. search (rules, tests))))
    ∙ max_of_map (λ (x : Entry). x.setup) es
    ∙ greatest-is es
