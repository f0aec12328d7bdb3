-- What is read of an object of ours: of each key its value.
use Rattle.std.proofs.Common.{◌≡◌, ℕ, Bool, true, false, List, [], ◌∷◌, ◌++◌, Option, Some, None, map, refl, ap, sym}
use Rattle.std.proofs.Common.{subst, ◌∙◌, filter, option_and_then, true≢false}
use Rattle.std.specs.Prelude.{if◌then◌else◌}
use Rattle.std.specs.List.{AllByRecursion}
use Rattle.std.specs.Str.{bytes_eq}
use Rattle.std.proofs.lemmas.Slice.Eq.{bytes_eq-Decides}
use Rattle.serde_json.specs.Data.{Data, Members, no_members, put}
use Rattle.serde_json.specs.Find.{as_array, get, get_member}
use Rattle.serde_json.proofs.Views.{get_member-put, get_member-put_other}
use Rattle.miette_json.specs.rules.Json.{Json}
use Rattle.miette_read.specs.rules.Members.{is_object, array_items, listed as listed_data, member_objects}
use Rattle.miette_sarif.specs.rules.Objects.{Pairs, array_of, items_of, listed, members_of, object_of}
use Rattle.miette_read_laws.specs.laws.Data.{data_of, items_data, members_data}

-- ---- members

-- the value of the last pair of a key, else what was found before
abbrev pub value_in : List ℕ → Pairs → Option Data → Option Data
value_in k [] o = o
value_in k (p ∷ ps) o = value_in k ps (if bytes_eq k p.0 then Some (data_of p.1) else o)

put_read : (k l : List ℕ) (d : Data) (ms : Members) (b : Bool) → bytes_eq k l ≡ b
    → get_member k (put l d ms) ≡ (if b then Some d else get_member k ms)
put_read k l d ms true e =
    subst (λ (x : List ℕ). get_member x (put l d ms) ≡ Some d) (sym ((bytes_eq-Decides k l).0 e))
    (get_member-put l d ms)
put_read k l d ms false e =
    get_member-put_other k l d ms
    (λ same. true≢false (sym ((bytes_eq-Decides k l).1 same) ∙ e))

members_read : (k : List ℕ) (ps : Pairs) (found : Members)
    → get_member k (members_data (members_of ps) found) ≡ value_in k ps (get_member k found)
members_read k [] found = refl
members_read k (p ∷ ps) found =
    members_read k ps (put p.0 (data_of p.1) found)
    ∙ ap (value_in k ps) (put_read k p.0 (data_of p.1) found (bytes_eq k p.0) refl)

pub object_read : (k : List ℕ) (ps : Pairs) → get k (data_of (object_of ps)) ≡ value_in k ps None
object_read k ps = members_read k ps no_members

pub after_pairs : (k : List ℕ) (ps qs : Pairs) (o : Option Data)
    → value_in k (ps ++ qs) o ≡ value_in k qs (value_in k ps o)
after_pairs k [] qs o = refl
after_pairs k (p ∷ ps) qs o = after_pairs k ps qs (if bytes_eq k p.0 then Some (data_of p.1) else o)

-- a list under another key
pub skips : (k key : List ℕ) (vs : List Json) (o : Option Data) → bytes_eq k key ≡ false
    → value_in k (listed key vs) o ≡ o
skips k key [] o e = refl
skips k key (v ∷ vs) o e = ap (λ b. if b then Some (data_of (array_of (v ∷ vs))) else o) e

-- ---- lists

pub items_read : (vs : List Json) → listed_data (items_data (items_of vs)) ≡ map data_of vs
items_read [] = refl
items_read (v ∷ vs) = ap (λ ds. data_of v ∷ ds) (items_read vs)

-- a list, where there is an item
abbrev pub some_array : List Json → Option Data
some_array [] = None
some_array (v ∷ vs) = Some (data_of (array_of (v ∷ vs)))

pub some_read : (vs : List Json) → array_items (option_and_then as_array (some_array vs)) ≡ map data_of vs
some_read [] = refl
some_read (v ∷ vs) = items_read (v ∷ vs)

pub listed_read : (k : List ℕ) (vs : List Json) → bytes_eq k k ≡ true → value_in k (listed k vs) None ≡ some_array vs
listed_read k [] e = refl
listed_read k (v ∷ vs) e = ap (λ b. if b then Some (data_of (array_of (v ∷ vs))) else None) e

-- of a list of objects each one is read
abbrev pub IsObject : Json → Type 0
IsObject v = is_object (data_of v) ≡ true

objects_read : (vs : List Json) → AllByRecursion IsObject vs → filter is_object (map data_of vs) ≡ map data_of vs
objects_read [] h = refl
objects_read (v ∷ vs) h =
    let later : List Data = filter is_object (map data_of vs) in
    ap (λ b. if b then data_of v ∷ later else later) h.0 ∙ ap (λ ds. data_of v ∷ ds) (objects_read vs h.1)

pub objects_in : (k : List ℕ) (d : Data) (vs : List Json) → get k d ≡ some_array vs → AllByRecursion IsObject vs
    → member_objects k d ≡ map data_of vs
objects_in k d vs e h =
    ap (λ o. filter is_object (array_items (option_and_then as_array o))) e
    ∙ (ap (filter is_object) (some_read vs) ∙ objects_read vs h)

pub objects_listed : (k : List ℕ) (d : Data) (vs : List Json) → get k d ≡ Some (data_of (array_of vs))
    → AllByRecursion IsObject vs → member_objects k d ≡ map data_of vs
objects_listed k d vs e h =
    ap (λ o. filter is_object (array_items (option_and_then as_array o))) e
    ∙ (ap (filter is_object) (items_read vs) ∙ objects_read vs h)

pub all_objects : {X : Type 0} (f : X → Json) → ((x : X) → IsObject (f x)) → (xs : List X)
    → AllByRecursion IsObject (map f xs)
all_objects f each [] = tt
all_objects f each (x ∷ xs) = (each x, all_objects f each xs)
