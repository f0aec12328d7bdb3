-- The rule whose address is a report's url has the report's code.
use Rattle.std.proofs.Common.{◌≡◌, ℕ, Bool, true, false, List, [], ◌∷◌, ◌++◌, Option, Some, refl, sym, subst}
use Rattle.std.proofs.Common.{inl, inr}
use Rattle.std.specs.Prelude.{if◌then◌else◌, not}
use Rattle.std.specs.List.{Contains, list_any}
use Rattle.std.specs.Str.{bytes_eq}
use Rattle.std.proofs.lemmas.Bool.{and_parts, not-true, or_cases}
use Rattle.std.proofs.lemmas.List.Elements.{Contains-append_left, Contains-append_right, Contains-push}
use Rattle.std.proofs.lemmas.Slice.Eq.{bytes_eq-Decides}
use Rattle.indexmap.specs.IndexSet.{insert_key}
use Rattle.miette_lines.specs.rules.Lists.{is_nil}
use Rattle.miette_sarif.specs.rules.Codes.{absolute_uri, codes_after, codes_of, first_or, has_code, help_uri}
use Rattle.miette_sarif.specs.rules.Codes.{rule_value}
use Rattle.miette_sarif.specs.rules.Codes.{rule_values, rules_in}
use Rattle.miette_sarif.specs.rules.Findings.{Finding}
use Rattle.miette_sarif.proofs.Lists.{has_first, has_mapped}

-- ---- codes that are inserted

any_there : (k : List ℕ) (ks : List (List ℕ)) → list_any (bytes_eq k) ks ≡ true → Contains ks k
any_there k [] e = absurd (cc)
any_there k (x ∷ xs) e =
    elim (or_cases (bytes_eq k x) (list_any (bytes_eq k) xs) e) [
      | inl here ↦
          subst (λ (y : List ℕ). Contains (x ∷ xs) y) (sym ((bytes_eq-Decides k x).0 here)) (has_first x xs)
      | inr there ↦ Contains-append_right (x ∷ []) xs k (any_there k xs there)
    ]

new_there : (k : List ℕ) (ks : List (List ℕ)) (b : Bool) → list_any (bytes_eq k) ks ≡ b
    → Contains (if b then ks else ks ++ k ∷ []) k
new_there k ks true e = any_there k ks e
new_there k ks false e = Contains-push ks k

old_there : (x k : List ℕ) (ks : List (List ℕ)) (b : Bool) → Contains ks x → Contains (if b then ks else ks ++ k ∷ []) x
old_there x k ks true h = h
old_there x k ks false h = Contains-append_left ks (k ∷ []) x h

-- before and after one more code, which is none where it is empty
abbrev coded : Bool → List (List ℕ) → List ℕ → List (List ℕ)
coded none before code = if none then before else insert_key bytes_eq before code

coded_keeps : (x code : List ℕ) (before : List (List ℕ)) (none : Bool) → Contains before x
    → Contains (coded none before code) x
coded_keeps x code before true h = h
coded_keeps x code before false h = old_there x code before (list_any (bytes_eq code) before) h

coded_has : (code : List ℕ) (before : List (List ℕ)) (none : Bool) → none ≡ false
    → Contains (coded none before code) code
coded_has code before true e = absurd (cc)
coded_has code before false e = new_there code before (list_any (bytes_eq code) before) refl

codes_keep : (x : List ℕ) (before : List (List ℕ)) (fs : List Finding) → Contains before x
    → Contains (codes_after before fs) x
codes_keep x before [] h = h
codes_keep x before (f ∷ fs) h =
    codes_keep x (coded (is_nil f.code) before f.code) fs (coded_keeps x f.code before (is_nil f.code) h)

-- ---- a code with an address

code_there : (code : List ℕ) (before : List (List ℕ)) (f : Finding) (fs : List Finding) (later : Option (List ℕ))
    (uri : List ℕ) (b : Bool) → has_code code f.code ≡ b
    → (if b then first_or (absolute_uri f.url) later else later) ≡ Some uri
    → (later ≡ Some uri → Contains (codes_after (coded (is_nil f.code) before f.code) fs) code)
    → Contains (codes_after (coded (is_nil f.code) before f.code) fs) code
code_there code before f fs later uri true has e go =
    let parts = and_parts (not (is_nil f.code)) (bytes_eq f.code code) has in
    let same : f.code ≡ code = (bytes_eq-Decides f.code code).0 parts.1 in
    codes_keep code (coded (is_nil f.code) before f.code) fs
    (subst (λ (x : List ℕ). Contains (coded (is_nil f.code) before f.code) x) same
    (coded_has f.code before (is_nil f.code) (not-true (is_nil f.code) parts.0)))
code_there code before f fs later uri false has e go = go e

codes_there : (code : List ℕ) (before : List (List ℕ)) (fs : List Finding) (uri : List ℕ)
    → help_uri code fs ≡ Some uri → Contains (codes_after before fs) code
codes_there code before [] uri e = absurd (cc)
codes_there code before (f ∷ fs) uri e =
    code_there code before f fs (help_uri code fs) uri (has_code code f.code) refl e
    (codes_there code (coded (is_nil f.code) before f.code) fs uri)

pub rule_there : (code : List ℕ) (fs : List Finding) (uri : List ℕ) → help_uri code fs ≡ Some uri
    → Contains (rule_values (rules_in fs)) (rule_value code (Some uri))
rule_there code fs uri e =
    subst (λ (o : Option (List ℕ)). Contains (rule_values (rules_in fs)) (rule_value code o)) e
    (has_mapped (λ (x : List ℕ). rule_value x (help_uri x fs)) (codes_of fs) code (codes_there code [] fs uri e))
