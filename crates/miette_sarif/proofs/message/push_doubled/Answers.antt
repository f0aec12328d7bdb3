use Rattle.std.proofs.Common.{◌≡◌, ap, ◌∙◌, ◌++◌, string_bytes, get_or, take, rules}
use Rattle.std.proofs.lemmas.Str.{IsCharBoundary-before_ascii, IsCharBoundary-after_ascii}
use Rattle.miette_tree.proofs.Escapes.{next_escape, run_written, none_escaped}
use Rattle.miette_sarif.specs.rules.Messages.{doubled, double_byte, is_brace}
use Rattle.miette_sarif.proofs.Braces.{braces}
use Rattle.miette_sarif.proofs.message.push_doubled.Goals as goal

pub range-requires-clause-end_boundary : goal.range-requires-clause-end_boundary
range-requires-clause-end_boundary c =
    let next = next_escape braces c.loop-at.rest.now c.in-Some.at c.in-Some.ensures in
    IsCharBoundary-before_ascii _ _ next.inside next.low

pub push_brace-requires : goal.push_brace-requires
push_brace-requires c =
    let next = next_escape braces c.loop-at.rest.now c.in-Some.at c.in-Some.ensures in
    ap (λ l. is_brace (get_or l c.in-Some.at 0)) c.as_bytes.ensures.value ∙ next.here

pub range_from-rest-requires : goal.range_from-rest-requires
range_from-rest-requires c =
    let next = next_escape braces c.loop-at.rest.now c.in-Some.at c.in-Some.ensures in
    λ _. IsCharBoundary-after_ascii _ _ c.loop-at.invariant.1 next.inside next.low

pub loop-at-preserved : goal.loop-at-preserved
loop-at-preserved c =
    let rest = c.loop-at.rest.now in
    let at = c.in-Some.at in
    let run : string_bytes c.push_str.new.self ≡ string_bytes c.loop-at.out ++ take at rest = search rules in
    let escape : string_bytes c.push_brace.new.out ≡ string_bytes c.push_str.new.self
    ++ double_byte (get_or rest at 0) =
    c.in_ok-push_brace.ensures ∙ ap (λ l. string_bytes c.push_str.new.self ++ double_byte (get_or l at 0))
    c.as_bytes.ensures.value in
    let next = next_escape braces rest at c.in-Some.ensures in
    let written = run_written braces _ _ _ _ _ at next c.loop-at.invariant.0 run escape in (
      ap (λ l. string_bytes c.push_brace.new.out ++ doubled l) c.range_from-rest.ensures.value ∙ written,
      c.range_from-rest.utf8,
    )

pub returns : goal.returns
returns c =
    let same : doubled c.loop-at.rest.now ≡ c.loop-at.rest.now =
    none_escaped braces c.loop-at.rest.now c.in_default.ensures in
    search rules
