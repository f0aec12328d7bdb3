use Rattle.std.proofs.Common.{◌≡◌, chars, drop, length}
use Rattle.miette_runs.specs.rules.Sequences.{tokens}
use Rattle.miette_text.specs.steps.WholeText.{are_passed, passed_from}
use Rattle.miette_text.proofs.wrapping.blank_lines.walk_passes.Given as goal

abbrev pub invariant-loop-c : goal.invariant-loop-c
invariant-loop-c l =
    are_passed l.blanks (tokens (chars l.text)) ≡ passed_from l.place l.blanks (drop (length l.yielded) (chars l.text))
