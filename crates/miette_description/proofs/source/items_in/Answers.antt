use Rattle.std.proofs.Common.{Global, ◌≡◌, ◌+◌, List, [], ◌∷◌, length, refl, ap, ◌∙◌, arith}
use Rattle.json.specs.declared.value.Value.{Value}
use Rattle.miette_description.specs.steps.IndexNeeds.{items_in, items_len}
use Rattle.miette_description.specs.steps.ParsedValues.{list_data}
use Rattle.miette_description.proofs.source.items_in.Goals as goal

counted : (vs : List (Value Global)) → length vs ≡ items_len (list_data vs)
counted [] = refl
counted (v ∷ vs) = omega (arith, counted vs)

pub returns-in-Some : goal.returns-in-Some
returns-in-Some c = counted c.in-Some.list.now ∙ ap items_in c.in-Some.ensures

pub returns-in-None : goal.returns-in-None
returns-in-None c = ap items_in c.in-None.ensures
