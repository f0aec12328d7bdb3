-- A list that is read item by item.
use Rattle.std.proofs.Common.{Global, ◌≡◌, ℕ, suc, ◌+◌, ◌<◌, List, [], ◌∷◌, ◌++◌, length, get_or, map, drop, Option}
use Rattle.std.proofs.Common.{Some, None, option_map, refl, sym, ap, subst, ◌∙◌, ◌≤◌, add-one, append_assoc, append-nil}
use Rattle.std.proofs.Math.Seq.{drop-cons}
use Rattle.std.proofs.lemmas.List.{map-append, drop_all}
use Rattle.serde_json.specs.Data.{Data, item}
use Rattle.miette_description.specs.steps.ParsedValues.{value_data, list_data}
use Rattle.json.specs.declared.value.Value.{Value}
use Rattle.miette_description.specs.rules.Members.{and_then, all_items}

carried : {A : Type 0} (old : List A) (x : A) (o : Option (List A))
    → option_map (λ r. old ++ r) (and_then o (λ xs. Some (x ∷ xs))) ≡ option_map (λ r. (old ++ x ∷ []) ++ r) o
carried old x None = refl
carried old x (Some xs) = ap Some (sym (append_assoc old (x ∷ []) xs))

item_here : (vs : List (Value Global)) (i : ℕ) (v : Value Global) → i < length vs → v ≡ get_or vs i v
    → list_data (drop i vs) ≡ item (value_data v) (list_data (drop (i + 1) vs))
item_here vs i v h is =
    ap list_data (drop-cons vs i v h ∙ ap (λ x. x ∷ drop (suc i) vs) (sym is)
    ∙ ap (λ n. v ∷ drop n vs) (sym (add-one i)))

-- what is read so far, and what is left
abbrev pub ReadSoFar : {A : Type 0} → (Data → Option A) → List (Value Global) → List A → ℕ → Type 0
ReadSoFar reads vs old i = all_items reads (list_data vs)
    ≡ option_map (λ r. old ++ r) (all_items reads (list_data (drop i vs)))

pub one_read : {A : Type 0} (reads : Data → Option A) (vs : List (Value Global)) (old : List A) (i : ℕ)
    (v : Value Global) (x : A)
    → i < length vs → v ≡ get_or vs i v → reads (value_data v) ≡ Some x → ReadSoFar reads vs old i
    → ReadSoFar reads vs (old ++ x ∷ []) (i + 1)
one_read reads vs old i v x h is e inv =
    inv ∙ ap (λ l. option_map (λ r. old ++ r) (all_items reads l)) (item_here vs i v h is)
    ∙ ap (λ o. option_map (λ r. old ++ r) (and_then o (λ y. and_then (all_items reads (list_data (drop (i + 1) vs)))
    (λ ys. Some (y ∷ ys))))) e
    ∙ carried old x (all_items reads (list_data (drop (i + 1) vs)))

pub one_fails : {A : Type 0} (reads : Data → Option A) (vs : List (Value Global)) (old : List A) (i : ℕ)
    (v : Value Global)
    → i < length vs → v ≡ get_or vs i v → reads (value_data v) ≡ None → ReadSoFar reads vs old i
    → all_items reads (list_data vs) ≡ None
one_fails reads vs old i v h is e inv =
    inv ∙ ap (λ l. option_map (λ r. old ++ r) (all_items reads l)) (item_here vs i v h is)
    ∙ ap (λ o. option_map (λ r. old ++ r) (and_then o (λ y. and_then (all_items reads (list_data (drop (i + 1) vs)))
    (λ ys. Some (y ∷ ys))))) e

-- the same with what is made of each item
pub one_read_as : {A B : Type 0} (reads : Data → Option B) (value : A → B) (vs : List (Value Global)) (old new : List A)
    (i : ℕ) (v : Value Global) (x : A)
    → new ≡ old ++ x ∷ [] → i < length vs → v ≡ get_or vs i v → reads (value_data v) ≡ Some (value x)
    → ReadSoFar reads vs (map value old) i → ReadSoFar reads vs (map value new) (i + 1)
one_read_as {A} {B} reads value vs old new i v x pushed h is e inv =
    let P : List B → Type 0 = λ xs. ReadSoFar reads vs xs (i + 1) in
    subst P (sym (ap (map value) pushed ∙ map-append value old (x ∷ [])))
    (one_read reads vs (map value old) i v (value x) h is e inv)

itself : {A : Type 0} (o : Option (List A)) → o ≡ option_map (λ r. [] ++ r) o
itself None = refl
itself (Some xs) = refl

-- before the first item
pub none_read : {A : Type 0} (reads : Data → Option A) (vs : List (Value Global)) (old : List A) → old ≡ []
    → ReadSoFar reads vs old 0
none_read reads vs old e =
    itself (all_items reads (list_data vs)) ∙ ap (λ xs. option_map (λ r. xs ++ r) (all_items reads (list_data vs)))
    (sym e)

-- after the last item
pub all_read : {A : Type 0} (reads : Data → Option A) (vs : List (Value Global)) (old : List A) (i : ℕ)
    → length vs ≤ i → ReadSoFar reads vs old i → all_items reads (list_data vs) ≡ Some old
all_read reads vs old i h inv =
    inv ∙ ap (λ l. option_map (λ r. old ++ r) (all_items reads (list_data l))) (drop_all i vs h)
    ∙ ap Some (append-nil old)

-- ---- what is made of a list that is read item by item

-- what is made of all of it is what is made of what is left
abbrev pub MadeSoFar : {A B : Type 0} → (Data → Option A) → List (Value Global) → (List A → B) → (List A → B) → ℕ
    → Type 0
MadeSoFar reads vs whole rest i = option_map whole (all_items reads (list_data vs))
    ≡ option_map rest (all_items reads (list_data (drop i vs)))

made_on : {A B : Type 0} (rest next : List A → B) (x : A) (o : Option (List A)) → ((xs : List A) → rest (x ∷ xs)
    ≡ next xs) → option_map rest (and_then o (λ xs. Some (x ∷ xs))) ≡ option_map next o
made_on rest next x None h = refl
made_on rest next x (Some xs) h = ap Some (h xs)

pub one_made : {A B : Type 0} (reads : Data → Option A) (vs : List (Value Global)) (whole rest next : List A → B)
    (i : ℕ)
    (v : Value Global) (x : A)
    → i < length vs → v ≡ get_or vs i v → reads (value_data v) ≡ Some x → ((xs : List A) → rest (x ∷ xs) ≡ next xs)
    → MadeSoFar reads vs whole rest i → MadeSoFar reads vs whole next (i + 1)
one_made reads vs whole rest next i v x h is e on inv =
    inv ∙ ap (λ l. option_map rest (all_items reads l)) (item_here vs i v h is)
    ∙ ap (λ o. option_map rest (and_then o (λ y. and_then (all_items reads (list_data (drop (i + 1) vs)))
    (λ ys. Some (y ∷ ys))))) e
    ∙ made_on rest next x (all_items reads (list_data (drop (i + 1) vs))) on
