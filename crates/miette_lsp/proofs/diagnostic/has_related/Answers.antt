use Rattle.std.proofs.Common.{rules, tests, ◌∙◌}
use Rattle.std.proofs.lemmas.Iterator.{YieldsList-from_slice}
use Rattle.std.proofs.lemmas.Iterator.Search.{any_from_yields_List}
use Rattle.miette_lsp.proofs.Parts.{any_of}
use Rattle.miette_lsp.specs.steps.Putting.{is_related}
use Rattle.miette_sarif.specs.views.Findings.{mark_of}
use Rattle.miette_lsp.proofs.diagnostic.has_related.Goals as goal

pub returns : goal.returns
returns c =
    let locations = c.args.locations.now in
    any_from_yields_List (λ m. is_related (mark_of m)) _ _ _ c.any.ensures.ran
    (YieldsList-from_slice locations cc) (λ x b q k. search (rules, tests))
    ∙ any_of mark_of is_related locations
