use Rattle.std.proofs.Common.{ℕ, ◌+◌, ◌<◌, ◌∙◌, ap, length, refl, subst}
use Rattle.std.proofs.lemmas.List.{at_drop_all}
use Rattle.miette_protocol.specs.rules.Reading.{Span}
use Rattle.miette_fix_rows.specs.rules.DiffTexts.{part_in, parts_in}
use Rattle.miette_fix_drawing.proofs.Apart.{nothing_after, parts_before}
use Rattle.miette_fix_drawing.proofs.MarkRows.{parts_end, parts_more}
use Rattle.miette_fix_drawing.proofs.edit_underline_row.parts_in.Goals as goal

pub loop-span-preserved : goal.loop-span-preserved
loop-span-preserved c =
    parts_more c.args.line.now.start (length c.args.line.now.text.now) c.args.line.now.style c.args.line.now.spans.now
    c.loop-span.span-index c.span-item.result c.loop-span.parts.items c.push_part.new.parts.items c.part_in.result _
    c.loop-span-test.true
    (c.part_in.ensures ∙ ap (part_in c.args.line.now.start (length c.args.line.now.text.now) c.args.line.now.style)
    c.span-item.is)
    c.in_ok-push_part.ensures c.loop-span.invariant

pub returns-then-end-offset : goal.returns-then-end-offset
returns-then-end-offset c =
    let start : ℕ = c.args.line.now.start in
    let bytes : ℕ = length c.args.line.now.text.now in
    let style = c.args.line.now.style in
    parts_end c.loop-span.parts.items _ _
    (nothing_after (parts_in start bytes style) (start + bytes) refl (parts_before start bytes style)
    c.args.line.now.spans.now c.loop-span.span-index c.span-item.result c.requires.apart c.loop-span-test.true
    (subst (λ (n : ℕ). start + bytes < n) (c.offset.ensures ∙ ap (λ (s : Span). s.offset) c.span-item.is)
    c.if-end-offset.true))
    c.loop-span.invariant

pub returns : goal.returns
returns c =
    parts_end c.loop-span.parts.items _ _
    (at_drop_all (parts_in c.args.line.now.start (length c.args.line.now.text.now) c.args.line.now.style)
    c.args.line.now.spans.now c.loop-span.span-index c.loop-span-test.false) c.loop-span.invariant
