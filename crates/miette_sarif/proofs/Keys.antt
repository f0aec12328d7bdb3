-- Texts that a set holds, seen as texts: inserting one, and where one stands.
use Rattle.std.proofs.Common.{String, Global, ◌≡◌, ℕ, suc, ◌+◌, Bool, true, false, cond, List, [], ◌∷◌, ◌++◌, refl}
use Rattle.std.proofs.Common.{append_assoc, ap, ◌∙◌, map, length, string_bytes, sym}
use Rattle.std.specs.Prelude.{nat_lt, not, ◌||◌, Some, None, position}
use Rattle.std.specs.List.{list_any, position_or_len}
use Rattle.std.specs.Str.{bytes_eq}
use Rattle.std.specs.String.{string_eq}
use Rattle.indexmap.specs.IndexSet.{insert_all, insert_key}
use Rattle.miette_json.specs.rules.Json.{Json, json_text}
use Rattle.miette_sarif.specs.rules.Results.{first_values, one_first}
use denote.Ref.{Bor}

-- tests that agree along a function
any_map : {A B : Type 0} (f : A → B) (p : A → Bool) (q : B → Bool) → ((x : A) → p x ≡ q (f x)) → (xs : List A)
    → list_any p xs ≡ list_any q (map f xs)
any_map f p q same [] = refl
any_map f p q same (x ∷ xs) =
    ap (λ b. b || list_any p xs) (same x) ∙ ap (λ b. q (f x) || b) (any_map f p q same xs)

length_map : {A B : Type 0} (f : A → B) (xs : List A) → length xs ≡ length (map f xs)
length_map f [] = refl
length_map f (x ∷ xs) = ap suc (length_map f xs)

prefix_map : {A B : Type 0} (f : A → B) (p : A → Bool) (q : B → Bool) → ((x : A) → p x ≡ q (f x)) → (xs : List A)
    → position_or_len p xs ≡ position_or_len q (map f xs)
prefix_map f p q same [] = refl
prefix_map f p q same (x ∷ xs) =
    ap (λ b. cond (not b) (1 + position_or_len p xs) 0) (same x)
    ∙ ap (λ n. cond (not (q (f x))) (1 + n) 0) (prefix_map f p q same xs)

pub position_map : {A B : Type 0} (f : A → B) (p : A → Bool) (q : B → Bool) → ((x : A) → p x ≡ q (f x))
    → (xs : List A) → position p xs ≡ position q (map f xs)
position_map f p q same xs =
    ap (λ n. cond (nat_lt n (length xs)) (Some n) None) (prefix_map f p q same xs)
    ∙ ap (λ n. cond (nat_lt (position_or_len q (map f xs)) n) (Some (position_or_len q (map f xs))) None)
    (length_map f xs)

map_end : {A B : Type 0} (f : A → B) (xs : List A) (y : A) → map f (xs ++ y ∷ []) ≡ map f xs ++ f y ∷ []
map_end f [] y = refl
map_end f (x ∷ xs) y = ap (λ l. f x ∷ l) (map_end f xs y)

insert_by : {A B : Type 0} (f : A → B) (xs : List A) (y : A) (a b : Bool) → a ≡ b
    → map f (cond a xs (xs ++ y ∷ [])) ≡ cond b (map f xs) (map f xs ++ f y ∷ [])
insert_by f xs y true b e = ap (λ c. cond c (map f xs) (map f xs ++ f y ∷ [])) e
insert_by f xs y false b e = map_end f xs y ∙ ap (λ c. cond c (map f xs) (map f xs ++ f y ∷ [])) e

pub insert_texts : (ks : List (String Global)) (k : String Global)
    → map string_bytes (insert_key string_eq ks k) ≡ insert_key bytes_eq (map string_bytes ks) (string_bytes k)
insert_texts ks k = insert_by string_bytes ks k (list_any (string_eq k) ks) _
    (any_map string_bytes (string_eq k) (bytes_eq (string_bytes k)) (λ x. refl) ks)

pub any_texts : (k : String Global) (ks : List (String Global))
    → list_any (string_eq k) ks ≡ list_any (bytes_eq (string_bytes k)) (map string_bytes ks)
any_texts k ks = any_map string_bytes (string_eq k) (bytes_eq (string_bytes k)) (λ x. refl) ks

pub ruleset first_texts = (any_texts, insert_texts)

pub insert_codes : (ks : List (Bor (List ℕ))) (k : Bor (List ℕ))
    → map (λ (x : Bor (List ℕ)). x.now) (insert_key (λ x y. bytes_eq x.now y.now) ks k)
    ≡ insert_key bytes_eq (map (λ (x : Bor (List ℕ)). x.now) ks) k.now
insert_codes ks k = insert_by (λ (x : Bor (List ℕ)). x.now) ks k (list_any (λ y. bytes_eq k.now y.now) ks) _
    (any_map (λ (x : Bor (List ℕ)). x.now) (λ y. bytes_eq k.now y.now) (bytes_eq k.now) (λ x. refl) ks)

pub position_texts : (q : List ℕ) (ks : List (String Global))
    → position (λ k. bytes_eq q (string_bytes k)) ks ≡ position (bytes_eq q) (map string_bytes ks)
position_texts q ks = position_map string_bytes (λ k. bytes_eq q (string_bytes k)) (bytes_eq q) (λ x. refl) ks

pub position_codes : (q : List ℕ) (ks : List (Bor (List ℕ)))
    → position (λ k. bytes_eq q k.now) ks ≡ position (bytes_eq q) (map (λ (x : Bor (List ℕ)). x.now) ks)
position_codes q ks =
    position_map (λ (x : Bor (List ℕ)). x.now) (λ k. bytes_eq q k.now) (bytes_eq q) (λ x. refl) ks

-- ---- one more of several

pub map_pushed : {A B : Type 0} (f : A → B) (old new : List A) (x : A) → new ≡ old ++ x ∷ []
    → map f new ≡ map f old ++ f x ∷ []
map_pushed f old new x e = ap (map f) e ∙ map_end f old x

pub some_pushed : {A : Type 0} (old new more left rest all : List A) → new ≡ old ++ more → left ≡ more ++ rest
    → old ++ left ≡ all → new ++ rest ≡ all
some_pushed old new more left rest all e next h =
    ap (λ l. l ++ rest) e ∙ append_assoc old more rest ∙ ap (λ l. old ++ l) (sym next) ∙ h

pub one_pushed : {A : Type 0} (old new : List A) (v w : A) (left rest all : List A) → new ≡ old ++ v ∷ []
    → v ≡ w → left ≡ w ∷ rest → old ++ left ≡ all → new ++ rest ≡ all
one_pushed old new v w left rest all e is next h =
    some_pushed old new (v ∷ []) left rest all e (next ∙ ap (λ x. x ∷ rest) (sym is)) h

pub all_inserted : (before after : List (List ℕ)) (x y : List ℕ) (left rest all : List (List ℕ))
    → after ≡ insert_key bytes_eq before x → x ≡ y → left ≡ y ∷ rest → insert_all bytes_eq before left ≡ all
    → insert_all bytes_eq after rest ≡ all
all_inserted before after x y left rest all e f next h =
    ap (λ b. insert_all bytes_eq b rest) (e ∙ ap (insert_key bytes_eq before) f)
    ∙ ap (insert_all bytes_eq before) (sym next) ∙ h

pub first_added : (old new : List Json) (before after : List (List ℕ)) (v w : Json) (left rest all : List Json)
    → new ≡ old ++ one_first before v → after ≡ insert_key bytes_eq before (json_text v) → v ≡ w → left ≡ w ∷ rest
    → old ++ first_values before left ≡ all → new ++ first_values after rest ≡ all
first_added old new before after v w left rest all e f is next h =
    ap (λ l. l ++ first_values after rest) e ∙ append_assoc old (one_first before v) (first_values after rest)
    ∙ ap (λ b. old ++ (one_first before v ++ first_values b rest)) f
    ∙ ap (λ x. old ++ first_values before (x ∷ rest)) is ∙ ap (λ l. old ++ first_values before l) (sym next) ∙ h
