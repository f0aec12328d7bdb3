use Rattle.std.proofs.Common.{◌≡◌, ◌∙◌, ap, arith}
use Rattle.std.specs.List.{prefix_len}
use Rattle.std.proofs.lemmas.List.Sums.{prefix_len-le-length}
use Rattle.miette_text.specs.steps.WholeText.{is_in_row}
use Rattle.miette_text.proofs.Counts.{line-row}
use Rattle.miette_text.proofs.wrapping.lines.AsciiLineCodes.line_len.Goals as goal

pub returns-clause-value : goal.returns-clause-value
returns-clause-value c = c.row_len.ensures ∙ ap (prefix_len is_in_row) c.as_bytes.ensures.value
    ∙ line-row c.args.self.text.now

pub returns-clause-within : goal.returns-clause-within
returns-clause-within c =
    let is : c.row_len.result ≡ prefix_len is_in_row c.args.self.text.now = c.row_len.ensures
    ∙ ap (prefix_len is_in_row) c.as_bytes.ensures.value in
    omega (arith, is, prefix_len-le-length is_in_row c.args.self.text.now)
