use Rattle.std.proofs.Common.{string_bytes}
use Rattle.miette_tree.specs.views.Report.{tree_of}
use Rattle.miette_report.proofs.LogSteps.{described, one_reads}
use Rattle.miette_report.proofs.job_log.text_of.Goals as goal

pub text-requires : goal.text-requires
text-requires c =
    record { reads = one_reads (tree_of _ _) _ _ c.from_ref.ensures.value c.in_ok-report.ensures.sources }

pub returns-clause-ok : goal.returns-clause-ok
returns-clause-ok c =
    described (tree_of _ _) string_bytes _ _ c.args.log c.args.bytes.now c.text.result c.from_ref.ensures.value
    c.in_ok-report.ensures.ok c.text.ensures.ok
