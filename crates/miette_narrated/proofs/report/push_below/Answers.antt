use Rattle.std.specs.Option.{option_map}
use Rattle.miette_tree.specs.rules.Tree.{head}
use Rattle.miette_tree.specs.views.Owned.{ref_source}
use Rattle.miette_tree.specs.views.Report.{tree_of}
use Rattle.miette_narrated.proofs.Below.{below_told}
use Rattle.miette_narrated.proofs.report.push_below.Goals as goal

pub returns-clause-text : goal.returns-clause-text
returns-clause-text g c =
    below_told c.args.context (option_map (ref_source g.S.SourceCode.source) c.args.source)
    (head (tree_of g.D.Diagnostic.meaning g.S.SourceCode.source c.args.report.now)) _ _ _
    c.in_ok-push_all_snippets.ensures.text c.in_ok-push_advice.ensures
