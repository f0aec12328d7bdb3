use Rattle.std.proofs.Common.{◌≡◌, ◌∙◌, subst, false, rules}
use Rattle.miette_tree.specs.views.Report.{tree_of}
use Rattle.miette_graphical.specs.views.PartTexts.{IsBodyAndRelated, IsOutermost}
use Rattle.miette_graphical_rules.specs.steps.PrintedParts.{printed_inner, printed_root_causes}
use Rattle.miette_tree.specs.views.Handler.{AppendsOne}
use Rattle.miette_graphical_rules.specs.rules.PrintedDiagnostics.{labels_read}
use Rattle.miette_graphical.specs.views.Painting.{Paints, printing_of, settings_of, opt_ref_source}
use Rattle.miette_graphical.proofs.Steps.{report_whole, root_causes_fail, root_below_fails}
use Rattle.miette_graphical.proofs.outermost.push_report.Goals as goal

pub returns-in_err-push_root_causes-clause-refused : goal.returns-in_err-push_root_causes-clause-refused
returns-in_err-push_root_causes-clause-refused g c = λ h.
    let value = tree_of g.D.Diagnostic.meaning g.S.SourceCode.source c.args.report.now in
    root_causes_fail (settings_of c.args.painter.now) value
    (subst (λ s. labels_read (printed_root_causes s.cause_chain s.related_as_nested value) ≡ false)
    c.push_header_and_message.ensures.stays.0 (c.in_err-push_root_causes.ensures.refused (search rules)))

pub returns-in_err-push_body_and_related-clause-refused : goal.returns-in_err-push_body_and_related-clause-refused
returns-in_err-push_body_and_related-clause-refused g c = λ h.
    let value = tree_of g.D.Diagnostic.meaning g.S.SourceCode.source c.args.report.now in
    let source = opt_ref_source g.S.SourceCode.source c.source_code.result in
    let s = settings_of c.args.painter.now in
    let below : labels_read (printed_inner s.related_as_nested source value) ≡ false =
    subst (λ s. labels_read (printed_inner s.related_as_nested source value) ≡ false)
    (c.push_root_causes.ensures.keeps.0 ∙ c.push_header_and_message.ensures.stays.0)
    (c.in_err-push_body_and_related.ensures.refused (search rules)) in
    root_below_fails s value (subst (λ o. labels_read (printed_inner s.related_as_nested o value) ≡ false)
    c.source_code.ensures below)

pub returns-clause-ok : goal.returns-clause-ok
returns-clause-ok g c =
    let is_blank = g.H.Highlighter.is_blank in
    let may = g.H.Highlighter.may_follow in
    let old = c.args.painter.now in
    let caused = c.push_root_causes.new.painter in
    let drawn = c.push_body_and_related.new.painter in
    let new = c.push_footer.new.painter in
    let value = tree_of g.D.Diagnostic.meaning g.S.SourceCode.source c.args.report.now in
    subst (λ o. AppendsOne (IsOutermost value (printing_of is_blank may old new)) o new.out) c.in_ok-reserve.ensures
    (report_whole is_blank may value (record old { out = c.reserve.new.self }) c.push_header_and_message.new.painter
    caused drawn new
    c.in_ok-push_header_and_message.ensures.text c.push_header_and_message.ensures.stays
    c.in_ok-push_root_causes.ensures.ok
    c.push_root_causes.ensures.keeps
    (subst (λ o. Paints is_blank may (IsBodyAndRelated o value) caused drawn) c.source_code.ensures
    c.in_ok-push_body_and_related.ensures.ok)
    c.push_body_and_related.ensures.keeps c.in_ok-push_footer.ensures.text c.push_footer.ensures.stays)
