use Rattle.std.proofs.Common.{◌≡◌, chars, length}
use denote.Shadow.{shadow}
use denote.Text.{Utf8}
use Rattle.miette_runs.specs.rules.Sequences.{tokens}
use Rattle.miette_text.specs.steps.WholeText.{are_passed}
use Rattle.miette_text.proofs.wrapping.blank_lines.after_front.Given as goal

abbrev pub invariant-rest : goal.invariant-rest
invariant-rest l = record {
  told : are_passed l.blanks (tokens (chars l.rest)) ≡ are_passed l.blanks (tokens (chars l.text));
  text : shadow (Utf8 l.rest);
}

abbrev pub decreases-rest : goal.decreases-rest
decreases-rest l = length l.rest
