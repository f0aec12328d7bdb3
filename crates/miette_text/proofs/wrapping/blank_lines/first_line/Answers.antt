use Rattle.std.proofs.Common.{◌≡◌, ◌∙◌, ap, chars, rules, take, true}
use Rattle.miette_runs.specs.rules.Sequences.{tokens}
use Rattle.miette_text.specs.steps.WholeText.{are_passed}
use Rattle.miette_text.proofs.WholeLines.{line-of}
use Rattle.miette_text.proofs.wrapping.blank_lines.first_line.Goals as goal

pub range-requires-clause-end_boundary : goal.range-requires-clause-end_boundary
range-requires-clause-end_boundary c =
    (line-of c.args.text.now c.as_bytes.result.now c.row_len-len.result c.as_bytes.ensures.value
    c.row_len-len.ensures).boundary

pub returns-clause-len : goal.returns-clause-len
returns-clause-len c =
    (line-of c.args.text.now c.as_bytes.result.now c.row_len-len.result c.as_bytes.ensures.value
    c.row_len-len.ensures).len

pub returns-clause-within : goal.returns-clause-within
returns-clause-within c =
    (line-of c.args.text.now c.as_bytes.result.now c.row_len-len.result c.as_bytes.ensures.value
    c.row_len-len.ensures).inside

pub returns-clause-white : goal.returns-clause-white
returns-clause-white c =
    let cut : c.range.result.now ≡ take c.row_len-len.result c.args.text.now = search rules in
    c.is_white-is_white.ensures ∙ ap (λ xs. are_passed true (tokens (chars xs))) cut
