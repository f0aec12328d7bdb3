use Rattle.std.proofs.Common.{◌≡◌, ◌<◌, ◌≤◌, ◌+◌, ◌∷◌, ◌∙◌, ℕ, List, ap, sym, subst, arith, rules, refl, drop, length}
use Rattle.std.proofs.Common.{eqb-true}
use Rattle.std.proofs.lemmas.List.{length-drop, nil_from_length}
use Rattle.miette_columns.proofs.Stepping.{made}
use Rattle.miette_positions.specs.declared.position.Stop.{Stop}
use Rattle.miette_positions.specs.rules.Stops.{moved_by, stops_from}
use Rattle.miette_positions.specs.steps.Samples.{IsWithin}
use Rattle.miette_positions.proofs.Stepping.{first_at, lf_is, pair_parts, stops_end, stops_one, stops_two}
use Rattle.miette_positions.proofs.Stepping.{within_moved, within_one}
use Rattle.miette_positions.proofs.stops.next_stop.Goals as goal

-- so much of what is left of a source is within the source
part_within : (source rest : List ℕ) (from size : ℕ) → from ≤ length source → size ≤ length rest
    → rest ≡ drop from source → from + size ≤ length source
part_within source rest from size inside within is =
    omega (arith, inside, within, ap length is, length-drop from source)

pub returns-then-is_empty-clause-none : goal.returns-then-is_empty-clause-none
returns-then-is_empty-clause-none c =
    λ _. stops_end c.args.encoding c.args.source.now c.args.from
    (sym c.rest_from-rest.ensures
    ∙ nil_from_length c.rest_from-rest.result.now (eqb-true _ _ (sym c.is_empty.ensures ∙ c.if-is_empty.true)))

pub character-newline-requires : goal.character-newline-requires
character-newline-requires c =
    (pair_parts c.character-code.result.0 c.rest_from-left.result.now (sym c.is_pair.ensures ∙ c.if-is_pair.true)).1

pub returns-then-is_pair-clause-next : goal.returns-then-is_pair-clause-next
returns-then-is_pair-clause-next c =
    let source : List ℕ = c.args.source.now in
    let code = c.character-code.result.0 in
    let size = c.character-code.result.1 in
    let newline = c.character-newline.result.0 in
    let more = c.character-newline.result.1 in
    let rest = c.rest_from-rest.result.now in
    let left = c.rest_from-left.result.now in
    let end : List ℕ = drop (c.args.from.offset + size + more) source in
    let parts = pair_parts code left (sym c.is_pair.ensures ∙ c.if-is_pair.true) in
    let some : 0 < length rest = search rules in
    let f = first_at source rest left c.args.from.offset code size c.rest_from-rest.ensures c.rest_from-left.ensures
    some c.character-code.ensures.code c.character-code.ensures.size in
    let g = first_at source left end (c.args.from.offset + size) newline more c.rest_from-left.ensures refl parts.1
    c.character-newline.ensures.code c.character-newline.ensures.size in
    stops_two c.args.encoding source rest left end c.args.from code size newline more c.rest_from-rest.ensures refl f g
    parts.0 (lf_is left end newline more g parts.2)
    ∙ ap (λ (s : Stop). s ∷ stops_from c.args.encoding source s) (sym c.stop_past.ensures)

pub returns-then-is_pair-clause-within : goal.returns-then-is_pair-clause-within
returns-then-is_pair-clause-within c =
    let source : List ℕ = c.args.source.now in
    let size = c.character-code.result.1 in
    let more = c.character-newline.result.1 in
    let first = part_within source _ c.args.from.offset size c.requires.offset c.character-code.ensures.within
    c.rest_from-rest.ensures in
    let both = part_within source _ (c.args.from.offset + size) more first c.character-newline.ensures.within
    c.rest_from-left.ensures in
    subst (IsWithin source) (sym c.stop_past.ensures)
    (within_one c.args.encoding source (moved_by size c.args.from) (made c.character-newline.result.0 more)
    c.character-newline.ensures.some both (within_moved source size c.args.from first c.requires))

pub returns-clause-next : goal.returns-clause-next
returns-clause-next c =
    let source : List ℕ = c.args.source.now in
    let code = c.character-code.result.0 in
    let size = c.character-code.result.1 in
    let rest = c.rest_from-rest.result.now in
    let left = c.rest_from-left.result.now in
    let some : 0 < length rest = search rules in
    let f = first_at source rest left c.args.from.offset code size c.rest_from-rest.ensures c.rest_from-left.ensures
    some c.character-code.ensures.code c.character-code.ensures.size in
    stops_one c.args.encoding source rest left c.args.from code size c.rest_from-rest.ensures c.rest_from-left.ensures f
    (sym c.is_pair.ensures ∙ c.if-is_pair.false)
    ∙ ap (λ (s : Stop). s ∷ stops_from c.args.encoding source s) (sym c.stop_past-2.ensures)

pub returns-clause-within : goal.returns-clause-within
returns-clause-within c =
    let source : List ℕ = c.args.source.now in
    let size = c.character-code.result.1 in
    let first = part_within source _ c.args.from.offset size c.requires.offset c.character-code.ensures.within
    c.rest_from-rest.ensures in
    subst (IsWithin source) (sym c.stop_past-2.ensures)
    (within_one c.args.encoding source c.args.from (made c.character-code.result.0 size) c.character-code.ensures.some
    first c.requires)
