use Rattle.std.proofs.Common.{◌≡◌, false, rules, map}
use Rattle.std.specs.Prelude.{None}
use Rattle.std.specs.Option.{option_map}
use Rattle.miette_tree.specs.rules.Tree.{trees}
use Rattle.miette_tree.specs.views.Owned.{ref_source}
use Rattle.miette_tree.specs.views.Report.{tree_of}
use Rattle.miette_tree.specs.rules.Reads.{accepts, reports_pass}
use Rattle.miette_tree.proofs.Readings.{refused_below}
use Rattle.miette_narrated.specs.steps.NarrationSettings.{narration_settings_of}
use Rattle.miette_narrated.proofs.Further.{own_refused}
use Rattle.miette_narrated.proofs.Telling.{whole_told}
use Rattle.miette_narrated.proofs.report.narration_of.Goals as goal

pub returns-clause-text : goal.returns-clause-text
returns-clause-text g c =
    whole_told (narration_settings_of c.args.settings) (tree_of g.D.Diagnostic.meaning g.S.SourceCode.source
    c.args.report.now) _
    _ _ _ _ _ _ _ c.effective_source-source.ensures c.related.ensures.value c.new-text.ensures.bytes
    c.in_ok-push_head.ensures c.in_ok-push_causes_if.ensures c.in_ok-push_below.ensures.text
    c.in_ok-push_related.ensures.text c.in_ok-push_row_if.ensures

pub returns-in_err-push_below-clause-refused : goal.returns-in_err-push_below-clause-refused
returns-in_err-push_below-clause-refused g c = λ h.
    own_refused (tree_of g.D.Diagnostic.meaning g.S.SourceCode.source c.args.report.now) None _
    c.effective_source-source.ensures
    (c.in_err-push_below.ensures.refused (search rules))

pub returns-in_err-push_related-clause-refused : goal.returns-in_err-push_related-clause-refused
returns-in_err-push_related-clause-refused g c = λ h.
    let value = tree_of g.D.Diagnostic.meaning g.S.SourceCode.source in
    let source = option_map (ref_source g.S.SourceCode.source) c.effective_source-source.result in
    let related = trees (map value c.related.result.now) in
    let below : reports_pass accepts source related ≡ false = c.in_err-push_related.ensures.refused (search rules) in
    refused_below (value c.args.report.now) None source related c.effective_source-source.ensures
    c.related.ensures.value below
