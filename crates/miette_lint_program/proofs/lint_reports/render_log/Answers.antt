use Rattle.std.proofs.Common.{map}
use Rattle.miette_lint.specs.views.Found.{coded_of}
use Rattle.miette_lint_program.proofs.LogSteps.{log_is, over_slice, trees_read}
use Rattle.miette_lint_program.proofs.lint_reports.render_log.Goals as goal

pub log_of-requires : goal.log_of-requires
log_of-requires c =
    record {
      reads = trees_read c.args.check.now.name.now c.args.source.items (map coded_of c.in_ok-found.found.items) _
          (over_slice _ _ _ _ _ _ c.as_slice-2.ensures.value c.in_ok-reports.ensures);
    }

pub returns-in-Ok-clause-text : goal.returns-in-Ok-clause-text
returns-in-Ok-clause-text c =
    let check = c.args.check.now in
    log_is c.args.tool.now check.name.now check.width c.args.source.items _ _
    (map coded_of c.in_ok-found.found.items) _ c.in_ok-found.ensures c.as_slice.ensures.value
    (over_slice _ _ _ _ _ _ c.as_slice-2.ensures.value c.in_ok-reports.ensures) c.in-Ok.ensures.ok
