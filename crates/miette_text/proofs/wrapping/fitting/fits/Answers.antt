use Rattle.std.proofs.Common.{◌≡◌, ◌∙◌, ◌-◌, List, chars, ap, ap₂, arith, sym}
use Rattle.miette_runs.specs.rules.Sequences.{are_canonical, Token, spell, tokens}
use Rattle.miette_runs.specs.rules.Cells.{printed_columns}
use Rattle.miette_text.proofs.SingleRows.{fits-no_room, fits-none, fits-row, fits-shown, wrapped-row, wrapped-shown}
use Rattle.miette_text.proofs.wrapping.fitting.fits.Goals as goal

-- of the runs as of their parts
settled : (parts runs : List Token) → parts ≡ runs → tokens (spell parts) ≡ parts → tokens (spell runs) ≡ runs
settled parts runs e h = ap (λ ts. tokens (spell ts)) (sym e) ∙ h ∙ e

pub returns-then-not-is_canonical-clause-when : goal.returns-then-not-is_canonical-clause-when
returns-then-not-is_canonical-clause-when c =
    fits-none c.args.wrap_lines c.args.width c.args.first.now (chars c.args.text.now)
    (ap are_canonical (sym c.parts-indent.ensures) ∙ sym c.is_canonical.ensures.exact ∙ c.if-not-is_canonical.true)

pub returns-then-not-wrap_lines-clause-when : goal.returns-then-not-wrap_lines-clause-when
returns-then-not-wrap_lines-clause-when c =
    c.is_shown.ensures ∙ fits-shown c.args.wrap_lines c.args.width c.args.first.now (chars c.args.text.now)
    (ap are_canonical (sym c.parts-indent.ensures) ∙ sym c.is_canonical.ensures.exact ∙ c.if-not-is_canonical.false)
    c.if-not-wrap_lines.true

pub returns-then-not-wrap_lines-clause-same : goal.returns-then-not-wrap_lines-clause-same
returns-then-not-wrap_lines-clause-same c = λ h p w r i.
    let s = settled _ c.args.first.now c.parts-indent.ensures (c.is_canonical.ensures.same c.if-not-is_canonical.false)
    in
    wrapped-shown p c.args.first.now _ (w ∙ c.if-not-wrap_lines.true) i s (sym c.is_shown.ensures ∙ h)

pub returns-clause-same : goal.returns-clause-same
returns-clause-same c = λ h p w r i.
    let s = settled _ c.args.first.now c.parts-indent.ensures (c.is_canonical.ensures.same c.if-not-is_canonical.false)
    in
    let room = c.in-Some.ensures.1 ∙ ap₂ (λ m n. m - n) (sym r)
    (c.in_ok-columns.ensures ∙ ap printed_columns c.parts-indent.ensures) in
    wrapped-row p c.args.first.now c.in-Some.room _ (w ∙ c.if-not-wrap_lines.false) i s room
    (sym c.fits_row.ensures ∙ h)

pub returns-in_default-clause-when : goal.returns-in_default-clause-when
returns-in_default-clause-when c =
    let k = c.in_ok-columns.ensures ∙ ap printed_columns c.parts-indent.ensures in
    fits-no_room c.args.wrap_lines c.args.width c.args.first.now (chars c.args.text.now)
    (ap are_canonical (sym c.parts-indent.ensures) ∙ sym c.is_canonical.ensures.exact ∙ c.if-not-is_canonical.false)
    c.if-not-wrap_lines.false (omega (arith, k, c.in_default.ensures))

pub returns-clause-when : goal.returns-clause-when
returns-clause-when c =
    let k = c.in_ok-columns.ensures ∙ ap printed_columns c.parts-indent.ensures in
    c.fits_row.ensures
    ∙ fits-row c.args.wrap_lines c.args.width c.in-Some.room c.args.first.now (chars c.args.text.now)
    (ap are_canonical (sym c.parts-indent.ensures) ∙ sym c.is_canonical.ensures.exact ∙ c.if-not-is_canonical.false)
    c.if-not-wrap_lines.false (omega (arith, k, c.in-Some.ensures.0)) (c.in-Some.ensures.1
    ∙ ap (λ n. c.args.width - n) k)
