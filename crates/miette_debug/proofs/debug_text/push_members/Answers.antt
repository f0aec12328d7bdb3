use Rattle.std.proofs.lemmas.Result.{on_ok_weaker}
use Rattle.miette_tree.specs.rules.Tree.{head}
use Rattle.miette_tree.specs.views.Report.{tree_of}
use Rattle.miette_debug.proofs.Fields.{members_put}
use Rattle.miette_debug.proofs.debug_text.push_members.Goals as goal

pub returns : goal.returns
returns g c =
    let m = head (tree_of g.D.Diagnostic.meaning g.S.SourceCode.source c.args.report.now) in
    on_ok_weaker c.push_field-4.result (members_put m _ _ _ _ _ _ _ _ _ _ c.code.ensures c.severity.ensures
    c.severity_variant.ensures c.url.ensures c.help.ensures c.in_ok-push_field.ensures c.in_ok-push_field-2.ensures
    c.in_ok-push_field-3.ensures) c.push_field-4.ensures
