use Rattle.std.proofs.Common.{◌≡◌, ◌≤◌, ◌-◌, ◌∙◌, ap, length, subst, ℕ}
use Rattle.miette_protocol.specs.rules.Reading.{Source, Span}
use Rattle.miette_labels.specs.rules.Contexts.{contents}
use Rattle.miette_layout.proofs.AskedEnds.{refused_there, told_after, told_first}
use Rattle.miette_layout.proofs.source_end.ends_at.Goals as goal

pub returns-then-before-gt0 : goal.returns-then-before-gt0
returns-then-before-gt0 g c =
    let source : Source = g.S.SourceCode.source c.args.source.now in
    let offset : ℕ = c.args.offset in
    let placed : c.new-place.result ≡ record { offset = offset; len = 0 } =
    c.new-place.ensures ∙ ap (λ o. record { offset = o; len = 0 }) c.from.ensures in
    told_after source offset c.saturating_sub-before.result c.len.result c.in-Ok.contents
    (subst (λ (s : Span). s.offset ≤ length source.bytes) placed c.in-Ok.ensures.0.begins)
    (c.in-Ok.ensures.1 ∙ ap (contents 1 source) placed)
    (c.saturating_sub-before.ensures
    ∙ ap (λ o. offset - o) (c.offset.ensures ∙ ap (λ (s : Span). s.offset) c.span-span.ensures))
    (c.len.ensures ∙ ap (λ (s : Span). s.len) c.span-span.ensures) c.if-before-gt0.true

pub returns-else-before-gt0 : goal.returns-else-before-gt0
returns-else-before-gt0 g c =
    let source : Source = g.S.SourceCode.source c.args.source.now in
    let offset : ℕ = c.args.offset in
    let placed : c.new-place.result ≡ record { offset = offset; len = 0 } =
    c.new-place.ensures ∙ ap (λ o. record { offset = o; len = 0 }) c.from.ensures in
    told_first source offset c.saturating_sub-before.result c.in-Ok.contents
    (subst (λ (s : Span). s.offset ≤ length source.bytes) placed c.in-Ok.ensures.0.begins)
    (c.in-Ok.ensures.1 ∙ ap (contents 1 source) placed)
    (c.saturating_sub-before.ensures
    ∙ ap (λ o. offset - o) (c.offset.ensures ∙ ap (λ (s : Span). s.offset) c.span-span.ensures)) c.if-before-gt0.false

pub returns-in-Err : goal.returns-in-Err
returns-in-Err g c =
    refused_there (g.S.SourceCode.source c.args.source.now) c.args.offset c.new-place.result c.in-Err.field-0
    (c.new-place.ensures ∙ ap (λ o. record { offset = o; len = 0 }) c.from.ensures) c.in-Err.ensures
