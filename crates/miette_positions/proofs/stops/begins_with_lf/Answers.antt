use Rattle.std.proofs.Common.{◌∙◌, sym, eqb-true, drop, refl, rules}
use Rattle.std.proofs.lemmas.List.{nil_from_length}
use Rattle.miette_positions.proofs.Stepping.{lf_first, no_lf}
use Rattle.miette_positions.proofs.stops.begins_with_lf.Goals as goal

pub returns-then-is_empty : goal.returns-then-is_empty
returns-then-is_empty c =
    no_lf c.args.bytes.now
    (nil_from_length c.args.bytes.now (eqb-true _ _ (sym c.is_empty.ensures ∙ c.if-is_empty.true)))

pub returns : goal.returns
returns c =
    lf_first c.args.bytes.now (drop c.character.result.1 c.args.bytes.now) c.character.result.0 c.character.result.1
    (record {
      some = search rules;
      left_is = refl;
      code_is = c.character.ensures.code;
      size_is = c.character.ensures.size;
    })
