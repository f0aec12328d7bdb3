use Rattle.std.proofs.Common.{◌≡◌, List, [], ◌∷◌, map, refl, sym, ap, ◌∙◌}
use Rattle.serde_json.specs.Data.{Data}
use Rattle.serde_json.specs.View.{view, items_of}
use Rattle.miette_language_server.specs.rules.Members.{items_of_list, listed}
use Rattle.miette_language_server.proofs.members.items_in.Goals as goal

listed_again : (ds : List Data) → listed (items_of ds) ≡ ds
listed_again [] = refl
listed_again (d ∷ ds) = ap (λ l. d ∷ l) (listed_again ds)

pub returns-in-Some : goal.returns-in-Some
returns-in-Some c =
    ap (map view) c.as_slice.ensures.value ∙ sym (listed_again (map view c.in-Some.list.now.items))
    ∙ ap items_of_list c.in-Some.ensures
