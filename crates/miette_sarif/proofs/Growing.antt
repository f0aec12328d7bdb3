-- What is written of members and lists, step by step.
use Rattle.std.proofs.Common.{◌≡◌, ℕ, List, [], ◌∷◌, ◌++◌, Option, Some, None, Bool, true, false, length, map, refl}
use Rattle.std.proofs.Common.{sym, ap, ◌∙◌, arith, eqb-true}
use Rattle.std.specs.Prelude.{◌==◌}
use Rattle.miette_lines.specs.rules.Lists.{is_nil}
use Rattle.miette_json.specs.rules.Json.{Json, json_text}
use Rattle.miette_json.specs.rules.Writing.{JsonPrefix, with_items, with_key, with_optional_text, with_text, with_value}
use Rattle.miette_json.proofs.WrittenParts.{value_written}
use Rattle.miette_sarif.specs.rules.Objects.{Pairs, items_of, optional_text_pairs}
use Rattle.miette_sarif.specs.steps.Members.{with_pairs, with_texts}

-- ---- members

-- members before others
pub pairs_joined : (ps qs : Pairs) (p : JsonPrefix) → with_pairs (ps ++ qs) p ≡ with_pairs qs (with_pairs ps p)
pairs_joined [] qs p = refl
pairs_joined (m ∷ ms) qs p = pairs_joined ms qs (with_value m.1 (with_key m.0 p))

pub pairs_three : (ps qs rs : Pairs) (p : JsonPrefix)
    → with_pairs (ps ++ (qs ++ rs)) p ≡ with_pairs rs (with_pairs qs (with_pairs ps p))
pairs_three ps qs rs p = pairs_joined ps (qs ++ rs) p ∙ pairs_joined qs rs (with_pairs ps p)

-- a string that may be left out, before others
pub optional_pairs : (key : List ℕ) (o : Option (List ℕ)) (qs : Pairs) (p : JsonPrefix)
    → with_pairs (optional_text_pairs key o ++ qs) p ≡ with_pairs qs (with_optional_text key o p)
optional_pairs key None qs p = refl
optional_pairs key (Some s) qs p = refl

-- ---- what may have no item

pub is_nothing : (xs : List ℕ) (b : Bool) → b ≡ (length xs == 0) → b ≡ true → is_nil xs ≡ true
is_nothing [] b e f = refl
is_nothing (x ∷ xs) b e f = absurd (omega (arith, eqb-true (length (x ∷ xs)) 0 (sym e ∙ f)))

-- the members that are none of an empty list
pub none_put : {A : Type 0} (xs : List A) (ps : List A → Pairs) (p : JsonPrefix) (b : Bool) → ps [] ≡ []
    → b ≡ (length xs == 0) → b ≡ true → p ≡ with_pairs (ps xs) p
none_put [] ps p b none e f = ap (λ qs. with_pairs qs p) (sym none)
none_put (x ∷ xs) ps p b none e f = absurd (omega (arith, eqb-true (length (x ∷ xs)) 0 (sym e ∙ f)))

-- two forms of members that agree on lists with an item
pub some_put : {A : Type 0} (xs : List A) (ps qs : List A → Pairs) (p new : JsonPrefix) (b : Bool)
    → ((y : A) (ys : List A) → ps (y ∷ ys) ≡ qs (y ∷ ys)) → b ≡ (length xs == 0) → b ≡ false
    → new ≡ with_pairs (ps xs) p → new ≡ with_pairs (qs xs) p
some_put [] ps qs p new b same e f h = cc
some_put (x ∷ xs) ps qs p new b same e f h = h ∙ ap (λ ms. with_pairs ms p) (same x xs)

-- ---- values by their texts

pub text_item_put : (ss ts : List (List ℕ)) (t : List ℕ) (now new all : JsonPrefix) → ss ≡ t ∷ ts
    → new ≡ with_text t now → with_texts ss now ≡ all → with_texts ts new ≡ all
text_item_put ss ts t now new all next e h =
    ap (with_texts ts) e ∙ sym (ap (λ l. with_texts l now) next) ∙ h

pub texts_end : (ss ts : List (List ℕ)) (start now : JsonPrefix) → ss ≡ []
    → with_texts ss now ≡ with_texts ts start → now ≡ with_texts ts start
texts_end ss ts start now none h = sym (ap (λ l. with_texts l now) none) ∙ h

pub texts_of_items : (vs : List Json) (p : JsonPrefix) → with_texts (map json_text vs) p ≡ with_items (items_of vs) p
texts_of_items [] p = refl
texts_of_items (v ∷ vs) p =
    ap (with_texts (map json_text vs)) (sym (value_written v p)) ∙ texts_of_items vs (with_value v p)
