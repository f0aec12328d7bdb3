use Rattle.std.proofs.Common.{rules, ◌≡◌, Some, sym, subst}
use Rattle.miette_tree.specs.rules.Reads.{AlwaysReads}
use Rattle.miette_tree.specs.views.Report.{tree_of}
use Rattle.miette_description.specs.rules.Description.{described_tree}
use Rattle.miette_description.specs.steps.ParsedValues.{value_data}
use Rattle.miette_description.proofs.Sources.{described_reads}
use Rattle.miette_description.proofs.report.report_from_json.Goals as goal

pub returns-clause-sources : goal.returns-clause-sources
returns-clause-sources g c =
    let value = tree_of g.D.Diagnostic.meaning g.S.SourceCode.source in
    let same : c.into_inner.result ≡ c.in_ok-report.report.value = search rules in
    let is : described_tree (value_data c.in_ok-value.value) ≡ Some (value c.in_ok-report.report.value) =
    rw c.in_ok-refuse_float.ensures.ok.1 c.in_ok-report.ensures.ok in
    subst (λ r. AlwaysReads (value r)) (sym same) (described_reads (value_data c.in_ok-value.value)
    (value c.in_ok-report.report.value) is)
