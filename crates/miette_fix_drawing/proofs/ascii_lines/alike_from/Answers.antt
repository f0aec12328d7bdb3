use Rattle.std.proofs.Common.{ℕ, ◌+◌, ◌≤◌, ◌∙◌, ap, subst, sym, arith}
use Rattle.std.proofs.lemmas.Bool.{le-leb}
use Rattle.miette_protocol.specs.rules.Reading.{Span}
use Rattle.miette_fix_rows.specs.rules.DiffTexts.{holds_byte}
use Rattle.miette_fix_drawing.specs.steps.Printable.{byte_at}
use Rattle.miette_fix_drawing.proofs.Apart.{after_at, any_at, ended, held_at, none_at}
use Rattle.miette_fix_drawing.proofs.ChangedTexts.{held_in}
use Rattle.miette_fix_drawing.proofs.ascii_lines.alike_from.Goals as goal

pub loop-span-preserved : goal.loop-span-preserved
loop-span-preserved c = λ x lo.
    let span = c.span-item.result in
    any_at (holds_byte (byte_at x)) c.args.spans.now c.loop-span.span-index span c.loop-span-test.true
    (ap (holds_byte (byte_at x)) (sym c.span-item.is)
    ∙ ended (byte_at x) span c.args.at (le-leb (span.offset + span.len) c.args.at
    (omega (arith, c.offset-start.ensures, c.len-len.ensures, c.if-at-start.false, c.if-past-len.false))) lo)
    ∙ c.loop-span.invariant x lo

pub returns-then-at-start-clause-alike : goal.returns-then-at-start-clause-alike
returns-then-at-start-clause-alike c = λ x lo lt.
    sym (c.loop-span.invariant x lo)
    ∙ after_at (byte_at x) c.args.spans.now c.loop-span.span-index c.span-item.result c.requires.apart
    c.loop-span-test.true
    (subst (λ (n : ℕ). x + 1 ≤ n) (c.offset-start.ensures ∙ ap (λ (s : Span). s.offset) c.span-item.is)
    (omega (arith, lo, lt, c.min.ensures)))

pub returns-then-past-len-clause-alike : goal.returns-then-past-len-clause-alike
returns-then-past-len-clause-alike c = λ x lo lt.
    let span = c.span-item.result in
    sym (c.loop-span.invariant x lo)
    ∙ held_at (holds_byte (byte_at x)) c.args.spans.now c.loop-span.span-index span c.loop-span-test.true
    (ap (holds_byte (byte_at x)) (sym c.span-item.is)
    ∙ held_in x span (omega (arith, lo, c.offset-start.ensures, c.if-at-start.false))
    (omega (
      arith,
      lo,
      lt,
      c.offset-start.ensures,
      c.len-len.ensures,
      c.min-then-past-len.ensures,
      c.if-at-start.false,
      c.if-past-len.true,
    )))

pub returns-clause-alike : goal.returns-clause-alike
returns-clause-alike c = λ x lo lt.
    sym (c.loop-span.invariant x lo)
    ∙ none_at (holds_byte (byte_at x)) c.args.spans.now c.loop-span.span-index c.loop-span-test.false
