-- Texts of printable ASCII characters.
use Rattle.std.proofs.Common.{ℕ, ◌<◌, ◌≤◌, ◌≡◌, true, false, leb, ltb, eqb, List, ◌∷◌, length, refl, sym, ap, arith}
use Rattle.std.proofs.Common.{zero, suc, ◌+◌, ◌++◌, [], take, drop, ◌∙◌, ap₂}
use Rattle.std.specs.Prelude.{slice_index}
use Rattle.std.specs.List.{list_all}
use Rattle.std.specs.Int.{is_in_range}
use Rattle.std.proofs.lemmas.Bool.{and_parts, leb-true, ltb-true, le-leb, le-ltb, lt-leb, lt-ltb, ne_eqb}
use Rattle.std.proofs.lemmas.Bool.Decides.{nat_tests}
use Rattle.unicode_width.specs.Width.{char_width}
use Rattle.bstr.specs.Utf8.{decoded, good, or_replacement}
use Rattle.bstr.proofs.lemmas.PieceLemmas.{value-1}
use Rattle.miette_columns.specs.rules.Cells.{Cell, cells_from, characters, hides_next, width_at}
use Rattle.miette_columns.specs.rules.Widths.{width_of}
use Rattle.miette_columns.specs.views.Printable.{is_printable, plain_cells}
use Rattle.miette_columns.proofs.Stepping.{made, cells_step, characters_step}

-- what a printable character is not
pub record IsPlain (b : ℕ) : Type 0 where
  pub low : 32 ≤ b
  pub high : b < 127
  pub escape : eqb b 27 ≡ false
  pub tab : eqb b 9 ≡ false

pub plain_byte : (b : ℕ) → is_printable b ≡ true → IsPlain b
plain_byte b h =
    let parts = and_parts (leb 32 b) (ltb b 127) h in
    let low : 32 ≤ b = leb-true 32 b parts.0 in
    let high : b < 127 = ltb-true b 127 parts.1 in
    record { low = low; high = high; escape = ne_eqb b 27 (omega arith); tab = ne_eqb b 9 (omega arith) }

-- each has one column
pub one_column : (b : ℕ) → is_printable b ≡ true → width_of b ≡ 1
unfolding char_width
one_column b h =
    let parts = and_parts (leb 32 b) (ltb b 127) h in
    rw (parts.1, parts.0) refl

pub ascii_decoded : (b : ℕ) (bs : List ℕ) → b < 128 → decoded (b ∷ bs) ≡ good b 1
ascii_decoded b bs h = value-1 (length (b ∷ bs)) b (slice_index (b ∷ bs) 1) (slice_index (b ∷ bs) 2)
    (slice_index (b ∷ bs) 3) (omega arith, h)

-- each is a character of one byte
pub printable_character : (b : ℕ) (bs : List ℕ) → is_printable b ≡ true → characters (b ∷ bs) ≡ made b 1 ∷ characters bs
printable_character b bs h =
    let p = plain_byte b h in
    let is = ascii_decoded b bs (omega (arith, p.high)) in
    characters_step (b ∷ bs) bs b 1 (record {
      some = omega arith;
      left_is = refl;
      code_is =
          sym (ap (λ d. or_replacement d.char) is);
      size_is = sym (ap (λ d. d.size) is);
    })

pub printable_in_range : (b : ℕ) → is_printable b ≡ true → is_in_range 0x20 0x7E b ≡ true
printable_in_range b h = grind (arith, nat_tests)

pub printable_taken : (n : ℕ) (bs : List ℕ) → list_all is_printable bs ≡ true → list_all is_printable (take n bs) ≡ true
printable_taken zero bs h = refl
printable_taken (suc n) [] h = refl
printable_taken (suc n) (b ∷ bs) h = let parts = and_parts (is_printable b) (list_all is_printable bs) h in
    rw (parts.0) (printable_taken n bs parts.1)

plain_width : (tab column b : ℕ) → is_printable b ≡ true → 1 ≡ width_at width_of tab false column b
plain_width tab column b h =
    let p = plain_byte b h in
    rw (p.escape, p.tab) (sym (one_column b h))

plain_hides : (b : ℕ) → is_printable b ≡ true → false ≡ hides_next false b
plain_hides b h = let p = plain_byte b h in rw (p.escape) refl

-- `n` of them come first among the cells of a text
pub printable_then : (tab offset column n : ℕ) (bs : List ℕ) → n ≤ length bs → list_all is_printable (take n bs) ≡ true
    → cells_from width_of tab false offset column (characters bs) ≡ plain_cells offset column (take n bs)
    ++ cells_from width_of tab false (offset + n) (column + n) (characters (drop n bs))
printable_then tab offset column zero bs le h =
    let at : offset ≡ offset + 0 = omega arith in
    let here : column ≡ column + 0 = omega arith in
    ap₂ (λ p q. cells_from width_of tab false p q (characters bs)) at here
printable_then tab offset column (suc n) [] le h = absurd (omega (arith, le))
printable_then tab offset column (suc n) (b ∷ bs) le h =
    let parts = and_parts (is_printable b) (list_all is_printable (take n bs)) h in
    let p = plain_byte b parts.0 in
    let is = ascii_decoded b bs (omega (arith, p.high)) in
    let at : offset + 1 + n ≡ offset + suc n = omega arith in
    let here : column + 1 + n ≡ column + suc n = omega arith in
    let first : Cell = record { code = b; start = offset; after = offset + 1; from = column; until = column + 1 } in
    cells_step width_of tab false false offset column (b ∷ bs) bs b 1 1 (column + 1) (omega arith) refl
    (sym (ap (λ d. or_replacement d.char) is)) (sym (ap (λ d. d.size) is)) (plain_width tab column b parts.0) refl
    (plain_hides b parts.0)
    ∙ ap (λ cells. first ∷ cells) (printable_then tab (offset + 1) (column + 1) n bs (omega (arith, le)) parts.1)
    ∙ ap₂ (λ x y. first ∷ plain_cells (offset + 1) (column + 1) (take n bs)
    ++ cells_from width_of tab false x y (characters (drop n bs))) at here

-- the columns of an ASCII character, below the printable ones, among them, and after them
pub control_width : (b : ℕ) → b < 32 → 0 ≡ width_of b
unfolding char_width
control_width b h = rw (lt-ltb b 127 (omega (arith, h)), lt-leb 32 b h) refl

pub plain_one : (b : ℕ) → 32 ≤ b → b < 127 → 1 ≡ width_of b
unfolding char_width
plain_one b lo hi = rw (lt-ltb b 127 hi, le-leb 32 b lo) refl

pub delete_width : (b : ℕ) → 127 ≤ b → b < 128 → 0 ≡ width_of b
unfolding char_width
delete_width b lo hi = rw (le-ltb b 127 lo, lt-leb 160 b (omega (arith, hi))) refl
