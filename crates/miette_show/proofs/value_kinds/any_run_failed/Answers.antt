use Rattle.std.proofs.Common.{◌∙◌, rules, tests}
use Rattle.std.proofs.lemmas.Iterator.{YieldsList-from_slice}
use Rattle.std.proofs.lemmas.Iterator.Search.{any_from_yields_List}
use Rattle.serde_json.specs.View.{view}
use Rattle.miette_read.proofs.Steps.{any_of}
use Rattle.miette_show.specs.rules.ValueKinds.{run_failed}
use Rattle.miette_show.proofs.value_kinds.any_run_failed.Goals as goal

pub returns : goal.returns
returns c =
    let items = c.args.runs.now in
    any_from_yields_List (λ v. run_failed (view v)) _ _ _ c.any.ensures.ran (YieldsList-from_slice items cc)
    (λ x b q k. search (rules, tests))
    ∙ any_of view run_failed items
