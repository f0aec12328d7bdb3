use Rattle.std.proofs.Common.{◌≡◌, ◌∙◌, ◌&&◌, ap, chars, sym}
use Rattle.miette_text.specs.rules.Fitting.{has_ink, is_line}
use Rattle.miette_text.proofs.Fitting.{line-text}
use Rattle.miette_text.proofs.wrapping.fitting.is_shown.Goals as goal

pub returns-then-is_line : goal.returns-then-is_line
returns-then-is_line c =
    let line : is_line (chars c.args.text.now) ≡ _ = sym (line-text c.args.text.now c.utf8.text)
    ∙ ap is_line (sym c.as_bytes.ensures.value) ∙ sym c.is_line.ensures ∙ c.if-is_line.true in
    c.has_ink.ensures ∙ sym (ap (λ b. b && has_ink (chars c.args.text.now)) line)

pub returns-else-is_line : goal.returns-else-is_line
returns-else-is_line c =
    let line : is_line (chars c.args.text.now) ≡ _ = sym (line-text c.args.text.now c.utf8.text)
    ∙ ap is_line (sym c.as_bytes.ensures.value) ∙ sym c.is_line.ensures ∙ c.if-is_line.false in
    c.if-is_line.false ∙ sym (ap (λ b. b && has_ink (chars c.args.text.now)) line)
