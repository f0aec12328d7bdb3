use Rattle.std.proofs.Common.{◌≡◌, ◌∙◌, false, true, ap, sym}
use Rattle.miette_style.specs.rules.Escapes.{no_escape}
use Rattle.miette_text.proofs.PlainTexts.{plain-found}
use Rattle.miette_text.proofs.wrapping.plain.Goals as goal

pub returns-then-not-has_no_escape : goal.returns-then-not-has_no_escape
returns-then-not-has_no_escape c = λ h.
    absurd (let z : false ≡ true = sym c.if-not-has_no_escape.true ∙ c.has_no_escape.ensures
    ∙ ap no_escape c.as_bytes.ensures.value ∙ h in cc)

pub returns : goal.returns
returns c =
    let none : no_escape c.args.text.now ≡ true = ap no_escape (sym c.as_bytes.ensures.value)
    ∙ sym c.has_no_escape.ensures ∙ c.if-not-has_no_escape.false in
    plain-found c.args.text.now c.of.result none c.of.ensures
