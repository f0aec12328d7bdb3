use Rattle.std.proofs.Common.{◌≡◌, List, [], ◌∷◌, map, refl, sym, ap, ◌∙◌}
use Rattle.serde_json.specs.Data.{Data}
use Rattle.serde_json.specs.View.{view, items_of}
use Rattle.miette_read.specs.rules.Members.{array_items, listed}
use Rattle.miette_read.proofs.members.array_items.Goals as goal

listed_again : (ds : List Data) → listed (items_of ds) ≡ ds
listed_again [] = refl
listed_again (d ∷ ds) = ap (λ l. d ∷ l) (listed_again ds)

pub returns-in-Some : goal.returns-in-Some
returns-in-Some c =
    ap (map view) c.as_slice.ensures.value ∙ sym (listed_again (map view c.in-Some.list.now.items))
    ∙ ap array_items c.in-Some.ensures
