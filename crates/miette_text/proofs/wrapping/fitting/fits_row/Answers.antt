use Rattle.std.proofs.Common.{◌≡◌, ◌∙◌, ◌&&◌, ◌==◌, ◌<◌, ◌≤◌, ◌-◌, [], ◌∷◌, List, ℕ, ap, arith, chars, get_or, length}
use Rattle.std.proofs.Common.{nat_le, not, refl, sym, true}
use Rattle.std.proofs.lemmas.Bool.Decides.{nat_tests}
use Rattle.std.proofs.lemmas.Str.{chars-IsAscii}
use Rattle.std.proofs.Math.Bool.{and-true}
use Rattle.miette_text.specs.rules.Wrapping.{is_space}
use Rattle.miette_text.specs.steps.Fitting.{all_printable, fits_row}
use Rattle.miette_text.proofs.Fitting.{printable-ascii, printable-fits}
use Rattle.miette_text.proofs.wrapping.fitting.fits_row.Goals as goal

spelled : (room : ℕ) (bs : List ℕ) → all_printable bs ≡ true → fits_row room (chars bs) ≡ fits_row room bs
spelled room bs h = ap (fits_row room) (chars-IsAscii bs (printable-ascii bs h))

empty : (room : ℕ) (bs : List ℕ) → length bs < 1 → fits_row room (chars bs) ≡ true
empty room [] h = (let z : nat_le 0 room ≡ true = grind (arith, nat_tests) in spelled room [] refl ∙ z)
empty room (b ∷ bs) h = absurd (omega arith)

last-of : (room : ℕ) (bs : List ℕ) → all_printable bs ≡ true → length bs ≤ room → 1 ≤ length bs
    → not (get_or bs (length bs - 1) 0 == 32) ≡ fits_row room (chars bs)
last-of room bs h k l =
    let z : nat_le (length bs) room ≡ true = grind (arith, nat_tests) in
    sym (spelled room bs h ∙ printable-fits room bs h (omega arith)
    ∙ ap (λ b. not (is_space (get_or bs (length bs - 1) 0)) && b) z
    ∙ and-true (not (is_space (get_or bs (length bs - 1) 0))))

pub returns-in-empty : goal.returns-in-empty
returns-in-empty c =
    sym (empty c.args.room c.as_bytes-bytes.result.now c.in-empty.len_below)
    ∙ ap (λ us. fits_row c.args.room (chars us)) c.as_bytes-bytes.ensures.value

pub returns-in-len1-up : goal.returns-in-len1-up
returns-in-len1-up c =
    let h = sym c.is_printable.ensures ∙ c.if-not-is_printable.false in
    last-of c.args.room c.as_bytes-bytes.result.now h c.if-room-bytes.false c.in-len1-up.len_at_least
    ∙ ap (λ us. fits_row c.args.room (chars us)) c.as_bytes-bytes.ensures.value
