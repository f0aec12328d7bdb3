-- The rule of each code of a log stands at the code's index.
use Rattle.std.proofs.Common.{◌≡◌, ℕ, ◌+◌, ◌<◌, List, [], ◌∷◌, ◌++◌, Bool, true, false, not, ◌||◌, refl, ap}
use Rattle.std.proofs.Common.{sym, subst, ◌∙◌, arith, length, map, cond, Some, None, slice_get, unwrap_or}
use Rattle.std.proofs.Common.{true≢false, inl, inr, one-add, lt-ltb}
use Rattle.std.specs.Prelude.{if◌then◌else◌}
use Rattle.std.specs.List.{list_any, position_or_len}
use Rattle.std.specs.Str.{bytes_eq}
use Rattle.std.proofs.lemmas.Bool.{or_cases}
use Rattle.std.proofs.lemmas.Slice.Eq.{bytes_eq-Decides}
use Rattle.indexmap.specs.IndexSet.{insert_key}
use Rattle.miette_lines.specs.rules.Lists.{is_nil}
use Rattle.serde_json.specs.Data.{Data}
use Rattle.miette_read.proofs.Holding.{Has}
use Rattle.miette_sarif.specs.rules.Artifacts.{index_of}
use Rattle.miette_sarif.specs.rules.Codes.{codes_after, codes_of, help_uri, rule_value, rule_values, rules_in}
use Rattle.miette_sarif.specs.rules.Findings.{Finding}
use Rattle.miette_read_laws.specs.laws.Data.{data_of}

-- ---- keys that are inserted

or_true : (b : Bool) → (b || true) ≡ true
or_true true = refl
or_true false = refl

any_more : (p : List ℕ → Bool) (xs ys : List (List ℕ)) → list_any p xs ≡ true → list_any p (xs ++ ys) ≡ true
any_more p [] ys e = absurd (true≢false (sym e))
any_more p (x ∷ xs) ys e =
    elim (or_cases (p x) (list_any p xs) e) [
      | inl here ↦ ap (λ b. b || list_any p (xs ++ ys)) here
      | inr there ↦ ap (λ b. p x || b) (any_more p xs ys there) ∙ or_true (p x)
    ]

any_last : (p : List ℕ → Bool) (k : List ℕ) (xs : List (List ℕ)) → p k ≡ true → list_any p (xs ++ k ∷ []) ≡ true
any_last p k [] e = ap (λ b. b || false) e
any_last p k (x ∷ xs) e = ap (λ b. p x || b) (any_last p k xs e) ∙ or_true (p x)

inserted_there : (k : List ℕ) (ks : List (List ℕ)) (b : Bool) → list_any (bytes_eq k) ks ≡ b
    → list_any (bytes_eq k) (if b then ks else ks ++ k ∷ []) ≡ true
inserted_there k ks true e = e
inserted_there k ks false e = any_last (bytes_eq k) k ks ((bytes_eq-Decides k k).1 refl)

inserted_keeps : (p : List ℕ → Bool) (k : List ℕ) (ks : List (List ℕ)) (b : Bool) → list_any p ks ≡ true
    → list_any p (if b then ks else ks ++ k ∷ []) ≡ true
inserted_keeps p k ks true e = e
inserted_keeps p k ks false e = any_more p ks (k ∷ []) e

-- before and after one more code, which is none where it is empty
abbrev coded : List (List ℕ) → List ℕ → List (List ℕ)
coded before code = if is_nil code then before else insert_key bytes_eq before code

coded_by : (p : List ℕ → Bool) (before : List (List ℕ)) (code : List ℕ) (none : Bool) → list_any p before ≡ true
    → list_any p (if none then before else insert_key bytes_eq before code) ≡ true
coded_by p before code true e = e
coded_by p before code false e = inserted_keeps p code before (list_any (bytes_eq code) before) e

codes_keep : (p : List ℕ → Bool) (before : List (List ℕ)) (fs : List Finding) → list_any p before ≡ true
    → list_any p (codes_after before fs) ≡ true
codes_keep p before [] e = e
codes_keep p before (f ∷ fs) e =
    codes_keep p (coded before f.code) fs (coded_by p before f.code (is_nil f.code) e)

-- a finding has this code
abbrev pub HasCode : List ℕ → List Finding → Type 0
HasCode code fs = Has (λ (f : Finding). f.code ≡ code) fs

code_there : (c : ℕ) (cs : List ℕ) (before : List (List ℕ)) (fs : List Finding) → HasCode (c ∷ cs) fs
    → list_any (bytes_eq (c ∷ cs)) (codes_after before fs) ≡ true
code_there c cs before [] h = absurd h
code_there c cs before (f ∷ fs) (inl is) =
    codes_keep (bytes_eq (c ∷ cs)) (coded before f.code) fs
    (subst (λ code. list_any (bytes_eq (c ∷ cs)) (coded before code) ≡ true) (sym is)
    (inserted_there (c ∷ cs) before (list_any (bytes_eq (c ∷ cs)) before) refl))
code_there c cs before (f ∷ fs) (inr h) = code_there c cs (coded before f.code) fs h

-- ---- what stands at an index

below_by : (k x : List ℕ) (xs : List (List ℕ)) (b : Bool) → (b || list_any (bytes_eq k) xs) ≡ true
    → (list_any (bytes_eq k) xs ≡ true → position_or_len (bytes_eq k) xs < length xs)
    → cond (not b) (1 + position_or_len (bytes_eq k) xs) 0 < length (x ∷ xs)
below_by k x xs true e go = omega arith
below_by k x xs false e go = let later = go e in omega (arith, later)

below_end : (k : List ℕ) (xs : List (List ℕ)) → list_any (bytes_eq k) xs ≡ true
    → position_or_len (bytes_eq k) xs < length xs
below_end k [] e = absurd (true≢false (sym e))
below_end k (x ∷ xs) e = below_by k x xs (bytes_eq k x) e (below_end k xs)

found_by : {B : Type 0} (h : List ℕ → B) (k x : List ℕ) (xs : List (List ℕ)) (b : Bool) → bytes_eq k x ≡ b
    → (b || list_any (bytes_eq k) xs) ≡ true
    → (list_any (bytes_eq k) xs ≡ true → slice_get (map h xs) (position_or_len (bytes_eq k) xs) ≡ Some (h k))
    → slice_get (map h (x ∷ xs)) (cond (not b) (1 + position_or_len (bytes_eq k) xs) 0) ≡ Some (h k)
found_by h k x xs true is e go = ap (λ y. Some (h y)) (sym ((bytes_eq-Decides k x).0 is))
found_by h k x xs false is e go =
    ap (slice_get (map h (x ∷ xs))) (one-add (position_or_len (bytes_eq k) xs)) ∙ go e

found_there : {B : Type 0} (h : List ℕ → B) (k : List ℕ) (xs : List (List ℕ)) → list_any (bytes_eq k) xs ≡ true
    → slice_get (map h xs) (position_or_len (bytes_eq k) xs) ≡ Some (h k)
found_there h k [] e = absurd (true≢false (sym e))
found_there h k (x ∷ xs) e = found_by h k x xs (bytes_eq k x) refl e (found_there h k xs)

index_there : (k : List ℕ) (xs : List (List ℕ)) → list_any (bytes_eq k) xs ≡ true
    → index_of (bytes_eq k) xs ≡ position_or_len (bytes_eq k) xs
index_there k xs e =
    ap (λ b. unwrap_or (cond b (Some (position_or_len (bytes_eq k) xs)) None) 0)
    (lt-ltb (position_or_len (bytes_eq k) xs) (length xs) (below_end k xs e))

fused : {A B C : Type 0} (g : B → C) (f : A → B) (xs : List A) → map g (map f xs) ≡ map (λ x. g (f x)) xs
fused g f [] = refl
fused g f (x ∷ xs) = ap (λ ys. g (f x) ∷ ys) (fused g f xs)

-- ---- rules

abbrev rule_data : List Finding → List ℕ → Data
rule_data fs code = data_of (rule_value code (help_uri code fs))

pub rule_at : (c : ℕ) (cs : List ℕ) (fs : List Finding) → HasCode (c ∷ cs) fs
    → slice_get (map data_of (rule_values (rules_in fs))) (index_of (bytes_eq (c ∷ cs)) (codes_of fs))
    ≡ Some (data_of (rule_value (c ∷ cs) (help_uri (c ∷ cs) fs)))
rule_at c cs fs h =
    let there = code_there c cs [] fs h in
    let index : ℕ = index_of (bytes_eq (c ∷ cs)) (codes_of fs) in
    ap (λ rules. slice_get rules index) (fused data_of (λ code. rule_value code (help_uri code fs)) (codes_of fs))
    ∙ (ap (slice_get (map (rule_data fs) (codes_of fs))) (index_there (c ∷ cs) (codes_of fs) there)
    ∙ found_there (rule_data fs) (c ∷ cs) (codes_of fs) there)
