-- The addresses of codes, one finding after the other.
use Rattle.std.proofs.Common.{◌≡◌, ℕ, Bool, true, false, cond, List, [], ◌∷◌, refl, sym, ap}
use Rattle.std.proofs.Common.{◌∙◌, subst, length, String, Global, string_bytes}
use Rattle.std.proofs.lemmas.Map.Text.{hash_map_updates_str}
use Rattle.std.proofs.lemmas.Slice.Eq.{bytes_eq-Decides}
use Rattle.std.specs.Prelude.{not, ◌&&◌, ◌==◌, Option, Some, None, is_some}
use Rattle.std.specs.Str.{bytes_eq}
use Rattle.indexmap.specs.IndexMap.{IndexMap, IsEmpty, UpdatesBy, get_by}
use Rattle.std.specs.Map.{lookup}
use Rattle.miette_lines.specs.rules.Lists.{is_nil}
use Rattle.miette_sarif.specs.rules.Codes.{Rules, absolute_uri, first_or, has_code, help_uri}
use Rattle.miette_sarif.specs.rules.Findings.{Finding}
use Rattle.miette_sarif.specs.views.Rules.{option_text, uri_at}
use denote.Ref.{Bor}
use mathlib.Core.Path.{fun_ext}

-- ---- tests

pub not_nil : (xs : List ℕ) (b : Bool) → b ≡ (length xs == 0) → b ≡ false → is_nil xs ≡ false
not_nil [] b e f = sym e ∙ f
not_nil (x ∷ xs) b e f = refl

and_right : (a b : Bool) → (a && b) ≡ true → b ≡ true
and_right true b e = e
and_right false b e = cc

code_is : (other code : List ℕ) → has_code other code ≡ true → code ≡ other
code_is other code e = (bytes_eq-Decides code other).0 (and_right (not (is_nil code)) (bytes_eq code other) e)

-- ---- what is there already

keeps : (b : Bool) (o : Option (String Global)) (uri : Option (List ℕ)) → (b ≡ true → is_some o ≡ true)
    → option_text o ≡ cond b (first_or (option_text o) uri) (option_text o)
keeps true None uri h = let e = h refl in cc
keeps true (Some x) uri h = refl
keeps false o uri h = refl

pub noted_before : {S : Type 0} (m : IndexMap (Bor (List ℕ)) (String Global) S) (code : List ℕ) (uri : Option (List ℕ))
    → is_some (get_by (λ k. bytes_eq code k.now) m) ≡ true → (other : List ℕ)
    → uri_at m other ≡ cond (has_code other code) (first_or (uri_at m other) uri) (uri_at m other)
noted_before m code uri there other =
    keeps (has_code other code) (get_by (λ k. bytes_eq other k.now) m) uri
    (λ e. subst (λ c. is_some (get_by (λ k. bytes_eq c k.now) m) ≡ true) (code_is other code e) there)

-- ---- what is put there

puts : (b : Bool) (o : Option (String Global)) (s : String Global) (uri : Option (List ℕ))
    → (b ≡ true → is_some o ≡ false) → uri ≡ Some (string_bytes s)
    → option_text (cond b (Some s) o) ≡ cond b (first_or (option_text o) uri) (option_text o)
puts true None s uri h e = sym e
puts true (Some x) s uri h e = let f = h refl in cc
puts false o s uri h e = refl

pub noted_now : {S : Type 0} (m n : IndexMap (Bor (List ℕ)) (String Global) S) (code : List ℕ) (s : String Global)
    → (uri : Option (List ℕ))
    → UpdatesBy (λ x y. bytes_eq x.now y.now) (λ k. bytes_eq code k.now) m n (Some s)
    → is_nil code ≡ false → is_some (get_by (λ k. bytes_eq code k.now) m) ≡ false → uri ≡ Some (string_bytes s)
    → (other : List ℕ)
    → uri_at n other ≡ cond (has_code other code) (first_or (uri_at m other) uri) (uri_at m other)
noted_now m n code s uri updates some absent is other =
    let o = get_by (λ k. bytes_eq other k.now) m in
    ap option_text (hash_map_updates_str code m n (Some s) updates other)
    ∙ puts (bytes_eq code other) o s uri (λ e. subst (λ c. is_some (get_by (λ k. bytes_eq c k.now) m) ≡ false)
    ((bytes_eq-Decides code other).0 e) absent) is
    ∙ ap (λ b. cond (not b && bytes_eq code other) (first_or (option_text o) uri) (option_text o)) (sym some)

pub none_noted : {S : Type 0} (m : IndexMap (Bor (List ℕ)) (String Global) S) → IsEmpty m → (code : List ℕ)
    → uri_at m code ≡ None
none_noted m e code = ap (λ es. option_text (lookup (λ k. bytes_eq code k.now) es)) e

-- ---- one finding after the other

first_or_assoc : (a b c : Option (List ℕ)) → first_or (first_or a b) c ≡ first_or a (first_or b c)
first_or_assoc None b c = refl
first_or_assoc (Some x) b c = refl

step : (t : Bool) (a b c : Option (List ℕ))
    → first_or (cond t (first_or a b) a) c ≡ first_or a (cond t (first_or b c) c)
step true a b c = first_or_assoc a b c
step false a b c = refl

pub uri_step : (before after : Option (List ℕ)) (code : List ℕ) (f : Finding) (rest : List Finding)
    → (goal : Option (List ℕ))
    → after ≡ cond (has_code code f.code) (first_or before (absolute_uri f.url)) before
    → first_or before (help_uri code (f ∷ rest)) ≡ goal → first_or after (help_uri code rest) ≡ goal
uri_step before after code f rest goal e invariant =
    ap (λ o. first_or o (help_uri code rest)) e
    ∙ step (has_code code f.code) before (absolute_uri f.url) (help_uri code rest) ∙ invariant

abbrev rules_from : List (List ℕ) → (List ℕ → Option (List ℕ)) → Rules
rules_from codes uri = record { codes = codes; uri = uri }

-- rules with the same codes, and the same address for each
pub same_rules : (a b : List (List ℕ)) (f g : List ℕ → Option (List ℕ)) → a ≡ b → ((code : List ℕ) → f code ≡ g code)
    → rules_from a f ≡ rules_from b g
same_rules a b f g e h = ap (λ codes. rules_from codes f) e ∙ ap (λ uri. rules_from b uri) (fun_ext h)
