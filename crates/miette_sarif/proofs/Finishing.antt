-- Replacements of drafts: one more, or none where a text is no UTF-8.
use Rattle.std.proofs.Common.{◌≡◌, ℕ, Bool, true, false, cond, List, [], ◌∷◌, ◌++◌, length, map, Option, Some}
use Rattle.std.proofs.Common.{None, refl, sym, ap, ◌∙◌}
use Rattle.std.specs.Prelude.{◌&&◌, is_none}
use Rattle.std.specs.List.{list_all}
use Rattle.std.specs.Str.{is_utf8}
use Rattle.std.proofs.lemmas.List.{map-append}
use Rattle.miette_fixes.specs.declared.error.FixError.{FixError}
use Rattle.miette_fixes.specs.rules.Applying.{by_offset, edits_error}
use Rattle.miette_fixes.specs.rules.Edits.{Replacement}
use Rattle.miette_sarif.specs.rules.Findings.{ReplacementValue}
use Rattle.miette_sarif.specs.rules.Proposals.{applicable, replacements}
use Rattle.miette_sarif.specs.steps.Drafts.{DraftValue, drafts, finished, finished_one, made_of}
use Rattle.miette_sarif.proofs.Drafting.{drafts_are}

abbrev all_utf8 : List ReplacementValue → Bool
all_utf8 rs = list_all (λ r. is_utf8 r.text) rs

abbrev where_utf8 : List ReplacementValue → Option (List ReplacementValue)
where_utf8 rs = cond (all_utf8 rs) (Some rs) None

was_made : (b : Bool) (xs rs : List ReplacementValue) → cond b (Some xs) None ≡ Some rs → (b ≡ true) × (xs ≡ rs)
was_made true xs rs e = (refl, cc)
was_made false xs rs e = (cc, cc)

was_one : (b : Bool) (x r : ReplacementValue) → Some r ≡ cond b (Some x) None → (b ≡ true) × (x ≡ r)
was_one true x r e = (refl, cc)
was_one false x r e = (cc, cc)

was_none : (b : Bool) (x : ReplacementValue) → None ≡ cond b (Some x) None → b ≡ false
was_none true x e = cc
was_none false x e = refl

all_more : (rs : List ReplacementValue) (r : ReplacementValue) → all_utf8 rs ≡ true → is_utf8 r.text ≡ true
    → all_utf8 (rs ++ r ∷ []) ≡ true
all_more [] r e f = ap (λ b. b && true) f
all_more (x ∷ xs) r e f = one_more (is_utf8 x.text) (all_utf8 xs) _ e (λ g. all_more xs r g f)
  where
    one_more : (a b c : Bool) → (a && b) ≡ true → (b ≡ true → c ≡ true) → (a && c) ≡ true
    one_more true b c e f = f e
    one_more false b c e f = cc

pub one_made : (bytes : List ℕ) (ds : List DraftValue) (d : DraftValue) (rs new : List ReplacementValue)
    (r : ReplacementValue)
    → made_of bytes ds ≡ Some rs → Some r ≡ finished_one (finished bytes d) → new ≡ rs ++ r ∷ []
    → made_of bytes (ds ++ d ∷ []) ≡ Some new
one_made bytes ds d rs new r e f g =
    let before = was_made (all_utf8 (map (finished bytes) ds)) (map (finished bytes) ds) rs e in
    let one = was_one (is_utf8 (finished bytes d).text) (finished bytes d) r f in
    let here : map (finished bytes) (ds ++ d ∷ []) ≡ new =
    map-append (finished bytes) ds (d ∷ []) ∙ ap (λ l. l ++ finished bytes d ∷ []) before.1
    ∙ ap (λ x. rs ++ x ∷ []) one.1 ∙ sym g in
    let utf8 : all_utf8 (rs ++ r ∷ []) ≡ true =
    all_more rs r (ap all_utf8 (sym before.1) ∙ before.0) (ap (λ (x : ReplacementValue). is_utf8 x.text) (sym one.1)
    ∙ one.0) in
    ap where_utf8 here ∙ ap (λ b. cond b (Some new) None) (ap all_utf8 g ∙ utf8)

not_all : (bytes : List ℕ) (ds es : List DraftValue) (d : DraftValue) → is_utf8 (finished bytes d).text ≡ false
    → all_utf8 (map (finished bytes) (ds ++ d ∷ es)) ≡ false
not_all bytes [] es d e = ap (λ b. b && all_utf8 (map (finished bytes) es)) e
not_all bytes (x ∷ xs) es d e = right_false (is_utf8 (finished bytes x).text) _ (not_all bytes xs es d e)
  where
    right_false : (a b : Bool) → b ≡ false → (a && b) ≡ false
    right_false true b e = e
    right_false false b e = refl

pub none_made : (bytes : List ℕ) (ds es all : List DraftValue) (d : DraftValue) → all ≡ ds ++ d ∷ es
    → None ≡ finished_one (finished bytes d) → None ≡ made_of bytes all
none_made bytes ds es all d e f =
    let no = was_none (is_utf8 (finished bytes d).text) (finished bytes d) f in
    let result : Bool → Option (List ReplacementValue) = λ b. cond b (Some (map (finished bytes) all)) None in
    sym (ap result (ap (λ l. all_utf8 (map (finished bytes) l)) e ∙ not_all bytes ds es d no))

pub made_applicable : (bytes counted shown : List ℕ) (edits sorted given : List Replacement) (ds : List DraftValue)
    → counted ≡ bytes → shown ≡ bytes → (edits_error (length counted) edits ≡ None) × (sorted ≡ by_offset edits)
    → given ≡ sorted → ds ≡ drafts bytes given → made_of shown ds ≡ applicable bytes edits
made_applicable bytes counted shown edits sorted given ds e f h g is =
    let rs : List ReplacementValue = replacements bytes edits in
    let may : Option FixError → Option (List ReplacementValue) =
    λ o. cond (is_none o && all_utf8 rs) (Some rs) None in
    ap (λ b. made_of b ds) f ∙ ap (made_of bytes) (is ∙ ap (drafts bytes) (g ∙ h.1))
    ∙ ap where_utf8 (drafts_are bytes (by_offset edits))
    ∙ sym (ap may (ap (λ b. edits_error (length b) edits) (sym e) ∙ h.0))
