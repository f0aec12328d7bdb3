use Rattle.std.proofs.lemmas.Result.{on_ok_weaker}
use Rattle.miette_tree.specs.views.Report.{tree_of}
use Rattle.miette_tree.proofs.Written.{where_written}
use Rattle.miette_debug.proofs.Fields.{fields_put}
use Rattle.miette_debug.proofs.debug_text.push_fields.Goals as goal

pub returns : goal.returns
returns g c =
    let t = tree_of g.D.Diagnostic.meaning g.S.SourceCode.source c.args.report.now in
    on_ok_weaker c.push_str-2.result (fields_put t _ _ _ _ _ _ _ _ _ _ c.message.ensures c.labels_of.ensures
    c.cause_name.ensures c.in_ok-push_str.ensures.bytes c.in_ok-push_quoted.ensures c.in_ok-push_members.ensures
    c.in_ok-push_labels.ensures c.in_ok-push_field.ensures)
    (where_written c.push_str-2.result _ _ _ c.push_str-2.ensures.bytes)
