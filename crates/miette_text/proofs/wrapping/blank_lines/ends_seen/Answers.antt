use Rattle.std.proofs.Common.{◌∙◌, IsUtf8, ap, arith, chars, subst, sym}
use Rattle.miette_runs.specs.rules.Sequences.{tokens}
use Rattle.miette_text.specs.steps.WholeText.{are_passed}
use Rattle.miette_text.proofs.SeenEnds.{end_seen, line_seen}
use Rattle.miette_text.proofs.wrapping.blank_lines.ends_seen.Goals as goal

pub returns-then-closes : goal.returns-then-closes
returns-then-closes c = λ shown blanks.
    let bytes = c.as_bytes-bytes.result.now in
    let value = c.as_bytes-bytes.ensures.value in
    let len = c.styled_len-len.ensures in
    let text : IsUtf8 bytes = subst IsUtf8 (sym value) c.utf8.line in
    ap (λ bs. are_passed blanks (tokens (chars bs))) (sym value)
    ∙ line_seen bytes c.styled_len-len.result text (omega arith) len.within len.tail
    (sym c.closes.ensures ∙ c.if-closes.true) (sym c.is_visible.ensures ∙ shown) blanks

pub returns : goal.returns
returns c = λ shown blanks.
    let bytes = c.as_bytes-bytes.result.now in
    let value = c.as_bytes-bytes.ensures.value in
    let text : IsUtf8 bytes = subst IsUtf8 (sym value) c.utf8.line in
    ap (λ bs. are_passed blanks (tokens (chars bs))) (sym value)
    ∙ end_seen bytes text (omega (arith, c.styled_len-len.ensures.within)) (sym c.is_low.ensures ∙ shown) blanks
