-- The names in one item more.
use Rattle.std.proofs.Common.{◌≡◌, ℕ, ◌+◌, ◌<◌, List, [], ◌∷◌, ◌++◌, length, get_or, take, map, sym, ap, ◌∙◌}
use Rattle.std.proofs.Common.{Option, append_assoc, append-nil}
use Rattle.std.proofs.lemmas.List.{map-append}
use Rattle.serde_json.specs.Data.{Data}
use Rattle.serde_json.specs.View.{items_of, items_view, view}
use Rattle.serde_json.specs.declared.value.Value.{Value}
use Rattle.miette_read.proofs.Steps.{next_taken}
use Rattle.miette_read_sarif.specs.rules.Names.{names_in, names_within}

names_with : (bases : Option Data) (ds : List Data) (d : Data)
    → names_in bases (items_of (ds ++ d ∷ [])) ≡ names_in bases (items_of ds) ++ names_within bases d
names_with bases [] d = append-nil (names_within bases d)
names_with bases (x ∷ xs) d =
    ap (λ l. names_within bases x ++ l) (names_with bases xs d)
    ∙ sym (append_assoc (names_within bases x) (names_in bases (items_of xs)) (names_within bases d))

pub next_names : (bases : Option Data) (xs : List Value) (i : ℕ) (x : Value) → i < length xs → x ≡ get_or xs i x
    → names_in bases (items_view (take (i + 1) xs))
    ≡ names_in bases (items_view (take i xs)) ++ names_within bases (view x)
next_names bases xs i x h is =
    ap (λ l. names_in bases (items_view l)) (next_taken xs i x h is)
    ∙ ap (λ l. names_in bases (items_of l)) (map-append view (take i xs) (x ∷ []))
    ∙ names_with bases (map view (take i xs)) (view x)
