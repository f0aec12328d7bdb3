-- What a row prints.
use Rattle.std.proofs.Common.{◌≡◌, ℕ, List, [], ◌∷◌, ◌++◌, map, chars, encode_utf8_all, refl, sym, ap, ap₂, ◌∙◌}
use Rattle.std.proofs.lemmas.List.{map-append}
use Rattle.miette_style.specs.rules.Escapes.{no_escape}
use Rattle.miette_style.specs.rules.Rows.{Row, Run, glyphs_of}
use Rattle.miette_style.specs.rules.Styles.{plain}
use Rattle.miette_runs.specs.rules.Runs.{Fragment, HaveNoEscape, made_plain, print, printed_run}
use Rattle.miette_runs.specs.rules.Sequences.{erase}
use Rattle.miette_snippet_laws.specs.laws.Clean.{IsCleanRow}
use Rattle.miette_graphical_rules.specs.rules.Snippets.{run_text, runs_of_row}
use Rattle.miette_graphical_rules.proofs.RowTexts.{run_codes}
use Rattle.miette_graphical_laws.specs.laws.RowTexts.{PrintsRow, printed_runs, row_codes}

styled_row : (row : Row) → print (runs_of_row row) ≡ printed_runs row
styled_row [] = refl
styled_row (run ∷ row) = ap₂ (λ x y. x ++ y) (ap (printed_run run.style) (run_codes run)) (styled_row row)

plain_print : (text : List ℕ) → printed_run plain text ≡ text
plain_print [] = refl
plain_print (c ∷ text) = refl

plain_codes : (row : Row) → print (map made_plain (runs_of_row row)) ≡ row_codes row
plain_codes [] = refl
plain_codes (run ∷ row) =
    ap₂ (λ x y. x ++ y) (plain_print (run_text run) ∙ run_codes run) (plain_codes row)
    ∙ sym (map-append (λ glyph. glyph.code) run.glyphs (glyphs_of row))

no_escapes : (row : Row) → IsCleanRow row → HaveNoEscape (runs_of_row row)
no_escapes [] h = tt
no_escapes (run ∷ row) h = (ap no_escape (run_codes run) ∙ h.0, no_escapes row h.1)

decoded_codes : (row : Row) → chars (encode_utf8_all (row_codes row)) ≡ row_codes row
decoded_codes row = let run : Run = record { style = plain; glyphs = glyphs_of row } in run_codes run

pub prints_row : (row : Row) → ((text : List ℕ) → erase (encode_utf8_all text) ≡ encode_utf8_all (erase text))
    → ((runs : List Fragment) → HaveNoEscape runs → erase (print runs) ≡ print (map made_plain runs)) → PrintsRow row
prints_row row encoding printing =
    let text : IsCleanRow row → erase (print (runs_of_row row)) ≡ row_codes row =
    λ clean. printing (runs_of_row row) (no_escapes row clean) ∙ plain_codes row in
    let bytes : IsCleanRow row → erase (encode_utf8_all (print (runs_of_row row))) ≡ encode_utf8_all (row_codes row) =
    λ clean. encoding (print (runs_of_row row)) ∙ ap encode_utf8_all (text clean) in
    record {
      styled = styled_row row;
      text = text;
      bytes = bytes;
      decoded = λ clean. ap chars (bytes clean) ∙ decoded_codes row;
    }
