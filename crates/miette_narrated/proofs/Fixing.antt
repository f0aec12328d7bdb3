-- Fixes over a source that was read as a whole.
use Rattle.std.proofs.Common.{◌≡◌, ℕ, ◌+◌, ◌-◌, true, false, List, [], ◌∷◌, ◌++◌, length}
use Rattle.std.proofs.Common.{Option, Some, sym, ap, ap₂, ◌∙◌, subst, append-nil, append_assoc}
use Rattle.std.proofs.Common.{◌≢◌, codes}
use Rattle.std.specs.Prelude.{◌==◌, if◌then◌else◌, IsUtf8}
use Rattle.std.specs.Option.{option_map_or}
use Rattle.json.specs.Token.{Token, string}
use Rattle.json.specs.Print.{print, print_from, quoted}
use Rattle.miette_columns.specs.rules.Cells.{characters}
use Rattle.miette_narrated.specs.rules.Lines.{characters_text}
use Rattle.miette_narrated.proofs.DecodedText.{decoded_utf8}
use Rattle.miette_fixes.specs.declared.error.FixError.{FixError}
use Rattle.miette_fixes.specs.declared.error.FixError.TheVariants.{OutOfBounds as OutOfRange, Memory}
use Rattle.miette_fixes.specs.rules.Applying.{by_offset, edits_error}
use Rattle.miette_fixes.specs.rules.Edits.{Replacement, FixModel}
use Rattle.miette_protocol.specs.rules.Reading.{Source}
use Rattle.miette_tree.proofs.Refusals.{refused_so}
use Rattle.miette_tree.proofs.WholeReads.{never_fails}
use Rattle.miette_narrated.specs.rules.Labels.{row}
use Rattle.miette_narrated.specs.rules.Fixes.{NarratedFixOrigin, narrated_fix_origin, narrated_fixes_rows, read}
use Rattle.miette_narrated.specs.rules.Fixes.{failure_row, reason_text, edit_rows, applied_rows, rows_over_origin}
use Rattle.miette_narrated.specs.rules.Fixes.{narrated_fix_rows}
use Rattle.miette_narrated.specs.steps.AppendedParts.{AppendsNarratedFixes}

-- ---- what is appended

pub over_read : (source : Option Source) (s : Source) (bytes : List ℕ) (fixes : List FixModel) (old new : List ℕ)
    → source ≡ Some s → bytes ≡ s.bytes → new ≡ old ++ narrated_fixes_rows (read bytes) fixes
    → AppendsNarratedFixes source fixes old new
over_read source s bytes fixes old new is whole e = record {
  fails = false;
  possible = never_fails source;
  appended = e ∙ ap (λ bs. old ++ narrated_fixes_rows (read bs) fixes) whole
      ∙ ap (λ o. old ++ narrated_fixes_rows (narrated_fix_origin o false) fixes) (sym is);
}

-- ---- a text as a string of JSON

printed : (text : List ℕ) → print (string text ∷ []) ≡ quoted text
unfolding print_from
printed text = append-nil (quoted text)

pub quoted_put : (out new before items slice text : List ℕ) (tokens : List Token) → before ≡ []
    → tokens ≡ string text ∷ [] → items ≡ before ++ print tokens → IsUtf8 (print tokens) → slice ≡ items
    → new ≡ out ++ characters_text (characters slice) → new ≡ out ++ quoted text
quoted_put out new before items slice text tokens eb et ei utf8 es e =
    let is : slice ≡ print tokens = es ∙ ei ∙ ap (λ b. b ++ print tokens) eb in
    e ∙ ap (λ x. out ++ x) (decoded_utf8 slice (subst (λ (bs : List ℕ). IsUtf8 bs) (sym is) utf8) ∙ is ∙ ap print et
    ∙ printed text)

-- ---- edits that can't be applied

pub outside_told : {edit : ℕ} (bytes given : List ℕ) (edits : List Replacement) (e : FixError) → given ≡ bytes
    → (e ≢ Memory → edits_error (length given) edits ≡ Some e) → e ≡ OutOfRange edit
    → failure_row (codes "OutOfBounds") ≡ applied_rows bytes edits
outside_told bytes given edits e same h is =
    sym (ap (λ o. option_map_or (λ x. failure_row (reason_text x)) o (edit_rows bytes (by_offset edits)))
    (ap (λ bs. edits_error (length bs) edits) (sym same) ∙ refused_so (length given) edits e h is))

-- ---- a fix

pub fix_without : (out new : List ℕ) (over : NarratedFixOrigin) (fix : FixModel)
    → new ≡ out ++ row (codes "diagnostic fix: " ++ fix.message) → (length fix.edits == 0) ≡ true
    → new ≡ out ++ narrated_fix_rows over fix
fix_without out new over fix e empty =
    let first : List ℕ = row (codes "diagnostic fix: " ++ fix.message) in
    e ∙ ap (λ r. out ++ r) (sym (append-nil first)
    ∙ ap (λ b. first ++ (if b then [] else rows_over_origin over fix.edits)) (sym empty))

pub fix_with : (out now new rows : List ℕ) (over : NarratedFixOrigin) (fix : FixModel)
    → now ≡ out ++ row (codes "diagnostic fix: " ++ fix.message) → (length fix.edits == 0) ≡ false
    → rows ≡ rows_over_origin over fix.edits → new ≡ now ++ rows → new ≡ out ++ narrated_fix_rows over fix
fix_with out now new rows over fix e some er h =
    let first : List ℕ = row (codes "diagnostic fix: " ++ fix.message) in
    let more : List ℕ = rows_over_origin over fix.edits in
    h ∙ ap₂ (λ x y. x ++ y) e er ∙ append_assoc out first more
    ∙ ap (λ b. out ++ (first ++ (if b then [] else more))) (sym some)
