use Rattle.std.proofs.Common.{◌≡◌, ◌++◌, string_bytes, map, drop}
use Rattle.miette_brief.specs.rules.Commands.{message_rows_text}
use Rattle.miette_brief.specs.rules.Github.{fix_message_row}
use Rattle.miette_brief.proofs.github.push_fixes.Given as goal

abbrev pub invariant-loop-fix : goal.invariant-loop-fix
invariant-loop-fix l =
    string_bytes l.out ++ message_rows_text (map fix_message_row (drop l.fix-index l.fixes))
    ≡ string_bytes l.fn.out ++ message_rows_text (map fix_message_row l.fixes)
