use Rattle.std.proofs.Common.{map, rules, string_bytes}
use Rattle.miette_lint.specs.views.Found.{coded_of}
use Rattle.miette_lint_program.proofs.CommandSteps.{commands_told, never_refused}
use Rattle.miette_lint_program.proofs.LogSteps.{over_slice, trees_read}
use Rattle.miette_lint_program.proofs.lint_reports.commands_over.Goals as goal

pub push_commands-requires : goal.push_commands-requires
push_commands-requires c =
    record {
      reads = trees_read c.args.name.now c.args.input.items (map coded_of c.args.found.items) _
          (over_slice _ _ _ _ _ _ c.as_slice.ensures.value c.in-Ok.ensures);
    }

pub returns-clause-ok : goal.returns-clause-ok
returns-clause-ok c =
    commands_told c.args.name.now c.args.input.items (map coded_of c.args.found.items) _
    (string_bytes c.new-text.result) (string_bytes c.push_commands.new.text)
    (over_slice _ _ _ _ _ _ c.as_slice.ensures.value c.in-Ok.ensures) c.new-text.ensures.bytes
    c.in_ok-push_commands.ensures.ok

pub returns-in_err-push_commands-clause-accepted : goal.returns-in_err-push_commands-clause-accepted
returns-in_err-push_commands-clause-accepted c = λ accepted refused.
    never_refused c.args.name.now c.args.input.items (map coded_of c.args.found.items) _
    (over_slice _ _ _ _ _ _ c.as_slice.ensures.value c.in-Ok.ensures) accepted
    (c.in_err-push_commands.ensures.refused (search rules))
