-- Columns in a text of printable ASCII characters: each of its bytes is one.
use Rattle.std.proofs.Common.{ℕ, zero, suc, ◌-◌, ◌≡◌, true, false, min, List, [], ◌∷◌, length, take, refl, sym, ap, ◌∙◌}
use Rattle.std.proofs.Common.{arith}
use Rattle.std.specs.Int.{is_in_range}
use Rattle.std.specs.List.{list_all}
use Rattle.std.proofs.lemmas.Bool.{and_parts}
use Rattle.std.proofs.lemmas.List.{length-take}
use Rattle.unicode_width.specs.Width.{str_width}
use Rattle.unicode_width.proofs.Rules.{str_width-printable}
use Rattle.miette_columns.specs.rules.Cells.{characters}
use Rattle.miette_columns.specs.rules.Widths.{width_of}
use Rattle.miette_columns.specs.views.Printable.{is_printable}
use Rattle.miette_columns.proofs.Plaining.{one_column, printable_character, printable_in_range, printable_taken}
use Rattle.miette_columns.proofs.Stepping.{characters_end}
use Rattle.miette_lines.proofs.Cases.{by_cases}
use Rattle.miette_columns.specs.rules.Columns.{text_up_to, is_boundary, widths, column}
use Rattle.miette_columns.proofs.Columning.{begun_more, begun_zero, at_boundary, off_boundary}

plain_begun : (k : ℕ) (bs : List ℕ) → list_all is_printable bs ≡ true → text_up_to k (characters bs) ≡ take k bs
plain_begun zero bs h = begun_zero (characters bs)
plain_begun (suc k) [] h = ap (text_up_to (suc k)) (characters_end [] refl)
plain_begun (suc k) (b ∷ bs) h =
    let parts = and_parts (is_printable b) (list_all is_printable bs) h in
    let less : suc k - 1 ≡ k = omega arith in
    ap (text_up_to (suc k)) (printable_character b bs parts.0) ∙ begun_more (suc k) b 1 (characters bs) (omega arith)
    ∙ ap (λ j. b ∷ text_up_to j (characters bs)) less ∙ ap (λ r. b ∷ r) (plain_begun k bs parts.1)

plain_in_range : (bs : List ℕ) → list_all is_printable bs ≡ true → list_all (is_in_range 0x20 0x7E) bs ≡ true
plain_in_range [] h = refl
plain_in_range (b ∷ bs) h =
    let parts = and_parts (is_printable b) (list_all is_printable bs) h in
    rw (printable_in_range b parts.0) (plain_in_range bs parts.1)

plain_widths : (bs : List ℕ) → list_all is_printable bs ≡ true → widths bs ≡ length bs
plain_widths [] h = refl
plain_widths (b ∷ bs) h =
    let parts = and_parts (is_printable b) (list_all is_printable bs) h in
    let one : width_of b ≡ 1 = one_column b parts.0 in
    let more : widths bs ≡ length bs = plain_widths bs parts.1 in
    omega (arith, one, more)

-- `k` bytes are `k` columns, up to the text's end
pub plain_column : (k : ℕ) (bs : List ℕ) → list_all is_printable bs ≡ true → min k (length bs)
    ≡ column k (characters bs)
plain_column k bs h =
    let begins = plain_begun k bs h in
    let taken = printable_taken k bs h in
    by_cases {C = min k (length bs) ≡ column k (characters bs)} (is_boundary k (characters bs))
    (λ t. sym (at_boundary bs k t ∙ ap (str_width false) begins
    ∙ str_width-printable false (take k bs) (plain_in_range (take k bs) taken) ∙ length-take k bs))
    (λ f. sym (off_boundary bs k f ∙ ap widths begins ∙ plain_widths (take k bs) taken ∙ length-take k bs))
