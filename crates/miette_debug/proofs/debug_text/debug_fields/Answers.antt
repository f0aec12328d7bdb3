use Rattle.std.proofs.Common.{◌∙◌, ◌++◌, ap, sym, subst}
use Rattle.miette_tree.specs.views.Report.{tree_of}
use Rattle.miette_debug.specs.rules.DebugText.{IsDebugText}
use Rattle.miette_debug.proofs.debug_text.debug_fields.Goals as goal

pub returns : goal.returns
returns g c =
    let t = tree_of g.D.Diagnostic.meaning g.S.SourceCode.source c.args.report.now in
    let put = c.in_ok-push_fields.ensures in
    subst (IsDebugText t) (sym (put.appended ∙ ap (λ l. l ++ put.text) c.new-text.ensures.bytes)) put.is_given
