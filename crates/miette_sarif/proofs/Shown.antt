-- Texts that are UTF-8, and those that are not.
use Rattle.std.proofs.Common.{◌≡◌, ℕ, true, false, List, [], ◌∷◌, ◌++◌, length, Option, Some, None, refl, sym, ap}
use Rattle.std.proofs.Common.{◌∙◌, eq-eqb}
use Rattle.std.specs.Prelude.{IsUtf8, slice_range, if◌then◌else◌}
use Rattle.std.specs.Str.{is_utf8}
use Rattle.std.proofs.lemmas.Str.{IsUtf8-from_is_utf8, is_utf8-from_IsUtf8}
use Rattle.miette_lines.proofs.Cases.{by_cases}
use Rattle.miette_lines.specs.rules.Lists.{is_nil}
use Rattle.miette_positions.specs.declared.position.Stretch.{Stretch}
use Rattle.miette_sarif.specs.rules.Findings.{ReplacementValue}
use Rattle.miette_sarif.specs.rules.Marks.{shows_snippet, text_of}
use Rattle.miette_sarif.specs.steps.Drafts.{DraftValue, finished, finished_one}

some_bytes : (xs : List ℕ) → (length xs ≡ 0 → ⊥) → is_nil xs ≡ false
some_bytes [] h = absurd (h refl)
some_bytes (x ∷ xs) h = refl

pub not_utf8 : (xs : List ℕ) → (IsUtf8 xs → ⊥) → is_utf8 xs ≡ false
not_utf8 xs h = by_cases {C = is_utf8 xs ≡ false} (is_utf8 xs) (λ t. absurd (h (IsUtf8-from_is_utf8 xs t))) (λ f. f)

-- a stretch whose text is shown, and those whose text isn't
pub shown : (bytes part : List ℕ) (s : Stretch) → part ≡ text_of bytes s
    → s.start.position.line ≡ s.end.position.line → (length part ≡ 0 → ⊥) → IsUtf8 part
    → Some part ≡ (if shows_snippet bytes s then Some (text_of bytes s) else None)
shown bytes part s e same some utf8 =
    let line = eq-eqb s.start.position.line s.end.position.line same in
    let full : is_nil (text_of bytes s) ≡ false = ap is_nil (sym e) ∙ some_bytes part some in
    let text : is_utf8 (text_of bytes s) ≡ true = ap is_utf8 (sym e) ∙ is_utf8-from_IsUtf8 part utf8 in
    rw (line, full, text) (ap Some e)

pub not_shown : (bytes part : List ℕ) (s : Stretch) → part ≡ text_of bytes s
    → s.start.position.line ≡ s.end.position.line → (length part ≡ 0 → ⊥) → (IsUtf8 part → ⊥)
    → ◌≡◌ {A = Option (List ℕ)} None (if shows_snippet bytes s then Some (text_of bytes s) else None)
not_shown bytes part s e same some broken =
    let line = eq-eqb s.start.position.line s.end.position.line same in
    let full : is_nil (text_of bytes s) ≡ false = ap is_nil (sym e) ∙ some_bytes part some in
    let text : is_utf8 (text_of bytes s) ≡ false = ap is_utf8 (sym e) ∙ not_utf8 part broken in
    rw (line, full, text) refl

-- a draft that can be finished, and one that can't
pub draft_read : (bytes text : List ℕ) (d : DraftValue) → text ≡ d.text
    ++ slice_range bytes d.reached d.deleted.end.offset
    → IsUtf8 text → Some (record { deleted = d.deleted; text = text }) ≡ finished_one (finished bytes d)
draft_read bytes text d e utf8 =
    let it : List ℕ → ReplacementValue = λ t. record { deleted = d.deleted; text = t } in
    let all : is_utf8 (finished bytes d).text ≡ true = ap is_utf8 (sym e) ∙ is_utf8-from_IsUtf8 text utf8 in
    rw all (ap (λ t. Some (it t)) e)

pub draft_unread : (bytes text : List ℕ) (d : DraftValue)
    → text ≡ d.text ++ slice_range bytes d.reached d.deleted.end.offset → (IsUtf8 text → ⊥)
    → ◌≡◌ {A = Option ReplacementValue} None (finished_one (finished bytes d))
draft_unread bytes text d e broken =
    let all : is_utf8 (finished bytes d).text ≡ false = ap is_utf8 (sym e) ∙ not_utf8 text broken in
    rw all refl
