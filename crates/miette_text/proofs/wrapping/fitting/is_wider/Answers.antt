use Rattle.std.proofs.Common.{◌≡◌, ◌∙◌, ◌&&◌, ◌++◌, ◌+◌, ◌<◌, ℕ, List, IsAscii, IsUtf8, ap, arith, chars, drop, false}
use Rattle.std.proofs.Common.{length, nat_le, subst, sym, take, true}
use Rattle.std.proofs.Math.Bool.{and-false}
use Rattle.std.proofs.lemmas.Bool.Decides.{nat_tests}
use Rattle.std.proofs.lemmas.List.{length-take-le, take-append-drop}
use Rattle.std.proofs.lemmas.List.Sums.{sum_by-append}
use Rattle.std.proofs.lemmas.Str.{IsUtf8-from_ascii, chars-IsAscii, chars-append}
use Rattle.miette_runs.specs.rules.Cells.{width}
use Rattle.miette_runs.specs.steps.Cells.{code_columns}
use Rattle.miette_text.specs.rules.Fitting.{ends_bare, is_line}
use Rattle.miette_text.specs.steps.Fitting.{all_printable, fits_row}
use Rattle.miette_text.proofs.Fitting.{printable-ascii, printable-columns}
use Rattle.miette_text.proofs.wrapping.fitting.is_wider.Goals as goal

too_many : (n room : ℕ) → room < n → nat_le n room ≡ false
too_many n room h = grind (arith, nat_tests)

wide-front : (room : ℕ) (bs : List ℕ) → IsUtf8 bs → room < length bs → all_printable (take (room + 1) bs) ≡ true
    → fits_row room (chars bs) ≡ false
wide-front room bs u l h =
    let front = take (room + 1) bs in
    let rest = chars (drop (room + 1) bs) in
    let ascii : IsAscii front = printable-ascii front h in
    let text : chars bs ≡ front ++ rest = ap chars (sym (take-append-drop (room + 1) bs))
    ∙ chars-append front (drop (room + 1) bs) (IsUtf8-from_ascii front ascii)
    ∙ ap (λ cs. cs ++ rest) (chars-IsAscii front ascii) in
    let all = front ++ rest in
    let own : code_columns front ≡ room + 1 = printable-columns front h ∙ length-take-le (room + 1) bs
    (omega (arith, l))
    in
    let both : code_columns all ≡ code_columns front + code_columns rest = sum_by-append width front rest in
    let over : nat_le (code_columns all) room ≡ false = too_many (code_columns all) room (omega (arith, own, both)) in
    ap (fits_row room) text
    ∙ ap (λ b. is_line all && (ends_bare true all && b)) over
    ∙ ap (λ b. is_line all && b) (and-false (ends_bare true all))
    ∙ and-false (is_line all)

pub returns : goal.returns
returns c = λ h.
    let bytes = c.as_bytes-bytes.result.now in
    let value = c.as_bytes-bytes.ensures.value in
    let text : IsUtf8 bytes = subst IsUtf8 (sym value) c.utf8.text in
    ap (λ bs. fits_row c.args.room (chars bs)) (sym value)
    ∙ wide-front c.args.room bytes text (omega arith) (sym c.is_printable.ensures ∙ h)
