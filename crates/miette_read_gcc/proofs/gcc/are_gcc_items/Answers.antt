use Rattle.std.proofs.Common.{◌∙◌, rules, tests}
use Rattle.std.proofs.lemmas.Iterator.{YieldsList-from_slice}
use Rattle.std.proofs.lemmas.Iterator.Search.{all_from_yields_List}
use Rattle.serde_json.specs.View.{view}
use Rattle.miette_read.proofs.Steps.{all_of}
use Rattle.miette_read_gcc.specs.rules.GccReport.{is_gcc_item}
use Rattle.miette_read_gcc.proofs.gcc.are_gcc_items.Goals as goal

pub returns : goal.returns
returns c =
    let items = c.args.items.now in
    all_from_yields_List (λ v. is_gcc_item (view v)) _ _ _ c.all.ensures.ran (YieldsList-from_slice items cc)
    (λ x b q k. search (rules, tests))
    ∙ all_of view is_gcc_item items
