use Rattle.std.proofs.Common.{◌≡◌, ◌++◌, ◌∙◌, ap, string_bytes, take, rules}
use Rattle.std.proofs.lemmas.Str.{IsCharBoundary-before_ascii}
use Rattle.miette_json.specs.rules.Json.{escaped_text}
use Rattle.miette_json.specs.steps.EscapedBytes.{begins_escaped}
use Rattle.miette_json.proofs.JsonSpelled.{escape_begins, next_escape, plain_written, none_escaped}
use Rattle.miette_json.proofs.text.push_escaped.Goals as goal

pub range-requires-clause-end_boundary : goal.range-requires-clause-end_boundary
range-requires-clause-end_boundary c =
    let next = next_escape c.loop-at.rest.now c.in-Some.at c.in-Some.ensures in
    IsCharBoundary-before_ascii _ _ next.inside next.low

pub range_from-requires : goal.range_from-requires
range_from-requires c =
    let next = next_escape c.loop-at.rest.now c.in-Some.at c.in-Some.ensures in
    λ _. IsCharBoundary-before_ascii _ _ next.inside next.low

pub push_escapes-requires : goal.push_escapes-requires
push_escapes-requires c =
    let next = next_escape c.loop-at.rest.now c.in-Some.at c.in-Some.ensures in
    ap begins_escaped c.range_from.ensures.value ∙ escape_begins c.loop-at.rest.now c.in-Some.at next

pub loop-at-preserved : goal.loop-at-preserved
loop-at-preserved c =
    let rest = c.loop-at.rest.now in
    let at = c.in-Some.at in
    let run : string_bytes c.push_str.new.self ≡ string_bytes c.loop-at.out ++ take at rest = search rules in
    let written = plain_written _ _ _ _ at (next_escape rest at c.in-Some.ensures) c.loop-at.invariant.0 run in
    search rules

pub returns : goal.returns
returns c =
    let same : escaped_text c.loop-at.rest.now ≡ c.loop-at.rest.now =
    none_escaped c.loop-at.rest.now c.in_default.ensures in
    search rules
