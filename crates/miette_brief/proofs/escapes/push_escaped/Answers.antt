use Rattle.std.proofs.Common.{◌≡◌, ap, sym, ◌∙◌, ◌++◌, string_bytes, get_or, take, rules}
use Rattle.std.proofs.lemmas.Str.{IsCharBoundary-before_ascii, IsCharBoundary-after_ascii}
use Rattle.miette_tree.proofs.Escapes.{next_escape, run_written, none_escaped}
use Rattle.miette_brief.specs.rules.Commands.{byte_text, escaped, percent}
use Rattle.miette_brief.proofs.Escaping.{byte_escaped, escapes}
use Rattle.miette_brief.proofs.escapes.push_escaped.Goals as goal

pub range-requires-clause-end_boundary : goal.range-requires-clause-end_boundary
range-requires-clause-end_boundary c =
    let next = next_escape (escapes c.args.part) c.loop-at.rest.now c.in-Some.at c.in-Some.ensures in
    IsCharBoundary-before_ascii _ _ next.inside next.low

pub range_from-rest-requires : goal.range_from-rest-requires
range_from-rest-requires c =
    let next = next_escape (escapes c.args.part) c.loop-at.rest.now c.in-Some.at c.in-Some.ensures in
    λ _. IsCharBoundary-after_ascii _ _ c.loop-at.invariant.1 next.inside next.low

pub loop-at-preserved : goal.loop-at-preserved
loop-at-preserved c =
    let rest = c.loop-at.rest.now in
    let part = c.args.part in
    let at = c.in-Some.at in
    let run : string_bytes c.push_str.new.self ≡ string_bytes c.loop-at.out ++ take at rest = search rules in
    let next = next_escape (escapes part) rest at c.in-Some.ensures in
    let escape : string_bytes c.push_percent.new.out ≡ string_bytes c.push_str.new.self
    ++ byte_text part (get_or rest at 0) =
    c.in_ok-push_percent.ensures ∙ ap (λ l. string_bytes c.push_str.new.self ++ percent (get_or l at 0))
    c.as_bytes.ensures.value
    ∙ ap (λ t. string_bytes c.push_str.new.self ++ t) (sym (byte_escaped part (get_or rest at 0) next.here)) in
    let written = run_written (escapes part) _ _ _ _ _ at next c.loop-at.invariant.0 run escape in (
      ap (λ l. string_bytes c.push_percent.new.out ++ escaped part l) c.range_from-rest.ensures.value ∙ written,
      c.range_from-rest.utf8,
    )

pub returns : goal.returns
returns c =
    let same : escaped c.args.part c.loop-at.rest.now ≡ c.loop-at.rest.now =
    none_escaped (escapes c.args.part) c.loop-at.rest.now c.in_default.ensures in
    search rules
