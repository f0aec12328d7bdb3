use Rattle.std.proofs.Common.{◌≡◌, List, [], ◌∷◌, Some, map, refl, sym, ap, ◌∙◌}
use Rattle.std.specs.Prelude.{option_map}
use Rattle.serde_json.specs.Data.{Data}
use Rattle.serde_json.specs.View.{view, items_of}
use Rattle.miette_read.specs.rules.Members.{listed}
use Rattle.miette_read.proofs.members.list_in.Goals as goal

listed_again : (ds : List Data) → listed (items_of ds) ≡ ds
listed_again [] = refl
listed_again (d ∷ ds) = ap (λ l. d ∷ l) (listed_again ds)

pub returns-in-Some : goal.returns-in-Some
returns-in-Some c =
    ap (λ l. Some (map view l)) c.as_slice.ensures.value
    ∙ ap Some (sym (listed_again (map view c.in-Some.list.now.items)))
    ∙ ap (option_map listed) c.in-Some.ensures
