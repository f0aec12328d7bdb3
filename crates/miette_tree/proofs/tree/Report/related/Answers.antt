use Rattle.std.proofs.Common.{ap, ◌∙◌, map, rules}
use Rattle.miette_tree.specs.rules.Tree.{trees}
use Rattle.miette_tree.specs.views.Report.{tree_of}
use Rattle.miette_tree.specs.declared.tree.Report.{the_lemmas}
use Rattle.miette_tree.proofs.tree.Report.related.Goals as goal

pub returns-in-Some-clause-value : goal.returns-in-Some-clause-value
returns-in-Some-clause-value g c =
    let value = tree_of g.D.Diagnostic.meaning g.S.SourceCode.source in
    let same = ap (λ list. trees (map value list)) c.as_slice.ensures.value in
    same ∙ search (rules, the_lemmas)
