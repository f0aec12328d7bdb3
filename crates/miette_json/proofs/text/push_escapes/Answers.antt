use Rattle.std.proofs.lemmas.Str.{IsCharBoundary-after_ascii}
use Rattle.miette_json.proofs.JsonSpelled.{first_escaped}
use Rattle.miette_json.proofs.text.push_escapes.Goals as goal

pub range_from-rest-requires : goal.range_from-rest-requires
range_from-rest-requires c =
    let first = first_escaped c.rest.rest.now c.rest.invariant.here in
    λ _. IsCharBoundary-after_ascii _ _ c.rest.invariant.text first.inside first.low
