-- Names, each once.
use Rattle.std.proofs.Common.{◌≡◌, ℕ, List, [], ◌∷◌, ◌++◌, Bool, true, false, refl, sym, ap, ◌∙◌}
use Rattle.std.proofs.Common.{map, bytes_eq, subst, string_bytes, ◌+◌, ◌<◌, get_or, length, take}
use Rattle.std.specs.Prelude.{◌||◌, is_some, if◌then◌else◌}
use Rattle.std.specs.List.{fold}
use Rattle.std.specs.HashMap.{get_by_text}
use Rattle.std.proofs.lemmas.Slice.Eq.{bytes_eq-Decides}
use Rattle.std.proofs.lemmas.List.{map-append}
use Rattle.miette_read.proofs.Steps.{next_taken}
use Rattle.miette_show_rows.specs.rules.FixesByFile.{each_once, has_name, with_name}
use Rattle.miette_show_rows.specs.rules.ApplicableFixes.{FileFixes}
use Rattle.miette_show_rows.specs.views.FixSelection.{AddsNames, HasNames, bare}
use Rattle.miette_show_rows.specs.views.Holding.{HoldsAll}
use Rattle.miette_show_rows.specs.declared.names.Names.{Names}
use Rattle.miette_show_rows.proofs.Holds.{adds_none, adds_then, has_more, or_false}

or_either : (a b c : Bool) → ((a || b) || c) ≡ (a || (b || c))
or_either true b c = refl
or_either false b c = refl

or_same : (a b : Bool) → (b ≡ true → a ≡ true) → a ≡ (a || b)
or_same true b h = refl
or_same false true h = h refl
or_same false false h = refl

-- a name is one of those that stand in a list with one more
has_with : (names : List (List ℕ)) (other name : List ℕ) (b : Bool) → has_name other names ≡ b
    → has_name name (if b then names else names ++ other ∷ []) ≡ (has_name name names || bytes_eq other name)
has_with names other name true e =
    or_same (has_name name names) (bytes_eq other name)
    (λ is. ap (λ n. has_name n names) (sym ((bytes_eq-Decides other name).0 is)) ∙ e)
has_with names other name false e = has_more name names other (bytes_eq other name) refl

has_folded : (names more : List (List ℕ)) (name : List ℕ)
    → has_name name (fold with_name names more) ≡ (has_name name names || has_name name more)
has_folded names [] name = sym (or_false (has_name name names))
has_folded names (n ∷ ns) name =
    has_folded (with_name names n) ns name
    ∙ ap (λ b. b || has_name name ns) (has_with names n name (has_name n names) refl)
    ∙ or_either (has_name name names) (bytes_eq n name) (has_name name ns)

has_once : (names : List (List ℕ)) (name : List ℕ) → has_name name (each_once names) ≡ has_name name names
has_once names name = has_folded [] names name

bare_names : (names : List (List ℕ)) → map (λ (it : FileFixes). it.name) (map bare names) ≡ names
bare_names [] = refl
bare_names (n ∷ ns) = ap (λ l. n ∷ l) (bare_names ns)

-- which names are held
pub is_held : (it : Names) (names : List (List ℕ)) (name : List ℕ) → HasNames it names
    → is_some (get_by_text it.table.fixes name) ≡ has_name name names
is_held it names name held =
    held.there name ∙ ap (λ ns. has_name name (each_once ns)) (bare_names names) ∙ has_once names name

pub held_list : (it : Names) (names : List (List ℕ)) → HasNames it names
    → map string_bytes it.table.names.items ≡ each_once names
held_list it names held = held.named ∙ ap each_once (bare_names names)

pub names_none : (it : Names) → AddsNames it it []
names_none it = adds_none it.table

pub names_then : (a b c : Names) (m n : List (List ℕ)) → AddsNames a b m → AddsNames b c n → AddsNames a c (m ++ n)
names_then a b c m n first second =
    λ all held. subst (λ (l : List FileFixes). HoldsAll c.table (all ++ l)) (sym (map-append bare m n))
    (adds_then a.table b.table c.table (map bare m) (map bare n) first second all held)

-- all that was put after none
pub names_from : (a b : Names) (m : List (List ℕ)) → HasNames a [] → AddsNames a b m → HasNames b m
names_from a b m none added = added [] none

-- more names after those that are there
pub names_more : (a b : Names) (m n : List (List ℕ)) → HasNames a m → AddsNames a b n → HasNames b (m ++ n)
names_more a b m n held added =
    subst (HoldsAll b.table) (sym (map-append bare m n)) (added (map bare m) held)

-- one name more of a list that is gone over
pub names_next : {X : Type 0} (look : X → List ℕ) (first a b : Names) (xs : List X) (i : ℕ) (x : X) → i < length xs
    → x ≡ get_or xs i x → AddsNames first a (map look (take i xs)) → AddsNames a b (look x ∷ [])
    → AddsNames first b (map look (take (i + 1) xs))
names_next look first a b xs i x h is so_far one =
    subst (AddsNames first b)
    (sym (ap (map look) (next_taken xs i x h is) ∙ map-append look (take i xs) (x ∷ [])))
    (names_then first a b (map look (take i xs)) (look x ∷ []) so_far one)
