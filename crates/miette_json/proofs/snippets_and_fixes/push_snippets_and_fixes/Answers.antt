use Rattle.std.proofs.lemmas.Result.{on_ok_weaker}
use Rattle.miette_tree.specs.rules.Tree.{head}
use Rattle.miette_tree.specs.views.Report.{tree_of}
use Rattle.miette_json.proofs.JsonAttached.{both_attached}
use Rattle.miette_json.proofs.snippets_and_fixes.push_snippets_and_fixes.Goals as goal

pub returns : goal.returns
returns g c =
    let m = head (tree_of g.D.Diagnostic.meaning g.S.SourceCode.source c.args.report.now) in
    on_ok_weaker c.push_fixes.result (both_attached m _ _ _ _ _ c.further_snippets.ensures c.fixes.ensures
    c.in_ok-push_snippets.ensures) c.push_fixes.ensures
