use Rattle.std.proofs.Common.{◌∙◌, Bor, rules, tests}
use Rattle.std.proofs.lemmas.Iterator.{YieldsList-from_slice}
use Rattle.std.proofs.lemmas.Iterator.Search.{any_from_yields_List}
use Rattle.miette_read.proofs.Steps.{any_of}
use Rattle.miette_read.specs.rules.SuggestedFixes.{FileEdit, is_in}
use Rattle.miette_read.proofs.advice.any_in.Goals as goal

pub returns : goal.returns
returns c =
    let after = λ (e : Bor FileEdit). e.now in
    let edits = c.args.edits.now in
    any_from_yields_List (λ e. is_in c.args.name.now (after e)) _ _ _ c.any.ensures.ran
    (YieldsList-from_slice edits cc) (λ x b q k. search (rules, tests))
    ∙ any_of after (is_in c.args.name.now) edits
