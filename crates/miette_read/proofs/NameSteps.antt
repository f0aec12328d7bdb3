-- The names in one item more.
use Rattle.std.proofs.Common.{◌≡◌, ℕ, ◌+◌, ◌<◌, List, [], ◌∷◌, ◌++◌, length, get_or, take, map, sym, ap, ◌∙◌}
use Rattle.std.proofs.Common.{append_assoc, append-nil}
use Rattle.std.proofs.lemmas.List.{map-append}
use Rattle.serde_json.specs.Data.{Data}
use Rattle.serde_json.specs.View.{items_of, items_view, view}
use Rattle.serde_json.specs.declared.value.Value.{Value}
use Rattle.miette_read.specs.rules.Names.{names_in, names_of}
use Rattle.miette_read.proofs.Steps.{next_taken}

names_with : (ds : List Data) (d : Data) → names_in (items_of (ds ++ d ∷ [])) ≡ names_in (items_of ds) ++ names_of d
names_with [] d = append-nil (names_of d)
names_with (x ∷ xs) d =
    ap (λ l. names_of x ++ l) (names_with xs d) ∙ sym (append_assoc (names_of x) (names_in (items_of xs)) (names_of d))

pub next_names : (xs : List Value) (i : ℕ) (x : Value) → i < length xs → x ≡ get_or xs i x
    → names_in (items_view (take (i + 1) xs)) ≡ names_in (items_view (take i xs)) ++ names_of (view x)
next_names xs i x h is =
    ap (λ l. names_in (items_view l)) (next_taken xs i x h is)
    ∙ ap (λ l. names_in (items_of l)) (map-append view (take i xs) (x ∷ []))
    ∙ names_with (map view (take i xs)) (view x)
