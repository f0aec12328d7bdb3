-- The lines cut the bytes: each begins where the one before it ends, and none is empty.
use Rattle.std.proofs.Common.{◌≡◌, ℕ, suc, zero, ◌+◌, ◌<◌, ◌≤◌, Bool, true, false, cond, ◌&&◌, List, [], ◌∷◌, length}
use Rattle.std.proofs.Common.{refl, sym, inl, inr, arith, ◌∙◌}
use Rattle.std.specs.Prelude.{◌==◌, nat_le, slice_get, slice_index}
use Rattle.std.specs.Option.{option_map_or}
use Rattle.std.proofs.lemmas.Bool.{cases_lt}
use Rattle.std.proofs.lemmas.List.Sums.{count_by-le-length}
use Rattle.miette_lines.specs.rules.Lines.{Line, CR, ends_line, with_byte, lines_from, lines_of, IsCut}
use Rattle.miette_lines.specs.rules.Lines.{is_terminated, line_of, line_start, line_end}
use Rattle.miette_lines.proofs.Places.{line_end_le, line_end_past, line_of_start, line_start_after}
use Rattle.miette_lines.proofs.Places.{line_start_mono, line_start_next}

cut-cr : (x : Bool) (at : ℕ) (l : Line) (ls : List Line) (to : ℕ) → IsCut (at + 1) (l ∷ ls) to →
    IsCut at (record { start = at; text_end = cond x at l.text_end; end = l.end } ∷ ls) to
cut-cr true at l ls to h = (refl, omega arith, omega (arith, h.3), omega (arith, h.3), h.4)
cut-cr false at l ls to h = (refl, omega (arith, h.1), h.2, omega (arith, h.3), h.4)

cut-with_byte : (b at : ℕ) (ls : List Line) (to : ℕ) → IsCut (at + 1) ls to → IsCut at (with_byte b at ls) to
cut-with_byte b at [] to h = (refl, omega arith, omega arith, omega arith, h)
cut-with_byte b at (l ∷ ls) to h = cut-cr (b == CR) at l ls to h

cut-step : (x : Bool) (b at : ℕ) (ls : List Line) (to : ℕ) → IsCut (at + 1) ls to →
    IsCut at (cond x (record { start = at; text_end = at; end = at + 1 } ∷ ls) (with_byte b at ls)) to
cut-step true b at ls to h = (refl, omega arith, omega arith, omega arith, h)
cut-step false b at ls to h = cut-with_byte b at ls to h

pub cut_from : (at : ℕ) (bs : List ℕ) (to : ℕ) → to ≡ at + length bs → IsCut at (lines_from at bs) to
cut_from at [] to e = omega (arith, e)
cut_from at (b ∷ bs) to e =
    cut-step (ends_line b (slice_index bs 0)) b at (lines_from (at + 1) bs) to
    (cut_from (at + 1) bs to (e ∙ omega arith))

-- every byte lies in exactly one line
pub lines_cut : (bytes : List ℕ) → IsCut 0 (lines_of bytes) (length bytes)
lines_cut bytes = cut_from 0 bytes (length bytes) (omega arith)

-- lines end where they begin or after it
pub cut_le : (at : ℕ) (ls : List Line) (to : ℕ) → IsCut at ls to → at ≤ to
cut_le at [] to h = omega (arith, h)
cut_le at (l ∷ ls) to h = omega (arith, h.3, cut_le l.end ls to h.4)

cut_some : (at : ℕ) (ls : List Line) (to : ℕ) → IsCut at ls to → at < to → 0 < length ls
cut_some at [] to h lt = absurd (omega (arith, h, lt))
cut_some at (l ∷ ls) to h lt = omega arith

-- bytes have a line
pub some_line : (bytes : List ℕ) → 0 < length bytes → 0 < length (lines_of bytes)
some_line bytes h = cut_some 0 (lines_of bytes) (length bytes) (lines_cut bytes) h

-- ---- by their numbers

nonempty_at : (ls : List Line) (at to k d : ℕ) → IsCut at ls to → k < length ls →
    option_map_or (λ l. l.start) (slice_get ls k) d < option_map_or (λ l. l.end) (slice_get ls k) d
nonempty_at [] at to k d h lt = absurd (omega (arith, lt))
nonempty_at (l ∷ ls) at to zero d h lt = omega (arith, h.0, h.3)
nonempty_at (l ∷ ls) at to (suc k) d h lt = nonempty_at ls l.end to k d h.4 (omega (arith, lt))

-- no line is empty
pub nonempty : (bytes : List ℕ) (k : ℕ) → k < length (lines_of bytes) → line_start bytes k < line_end bytes k
unfolding line_start line_end
nonempty bytes k lt = nonempty_at (lines_of bytes) 0 (length bytes) k (length bytes) (lines_cut bytes) lt

-- so each begins before the end, and later ones begin later
pub start_before_end : (bytes : List ℕ) (k : ℕ) → k < length (lines_of bytes) → line_start bytes k < length bytes
start_before_end bytes k lt = omega (arith, nonempty bytes k lt, line_end_le bytes k)

pub start_strict : (bytes : List ℕ) (i k : ℕ) → i < k → i < length (lines_of bytes) → line_start bytes i
    < line_start bytes k
start_strict bytes i k lt there =
    omega (
      arith,
      nonempty bytes i there,
      line_start_next bytes i,
      line_start_mono bytes (i + 1) k (omega (arith, lt)),
    )

-- no offset's line has a greater number than there are lines
pub few_lines : (bytes : List ℕ) (o : ℕ) → line_of bytes o ≤ length (lines_of bytes)
unfolding line_of
few_lines bytes o = count_by-le-length (λ l. is_terminated l && nat_le l.end o) (lines_of bytes)

-- all lines before a line have a terminator
pub lines_before : (bytes : List ℕ) (k : ℕ) → k < length (lines_of bytes) → k ≤ line_of bytes (length bytes)
lines_before bytes zero lt = omega arith
lines_before bytes (suc k) lt =
    elim (cases_lt (line_of bytes (length bytes)) (suc k)) [
      | inl h ↦ absurd (omega (
        arith,
        start_before_end bytes (suc k) lt,
        line_start_after bytes (suc k) k (omega arith),
        line_end_past bytes k (omega (arith, h)),
      ))
      | inr h ↦ omega (arith, h)
    ]

-- a line that is there begins in itself
pub line_of_there : (bytes : List ℕ) (k : ℕ) → k < length (lines_of bytes) → line_of bytes (line_start bytes k) ≡ k
line_of_there bytes k lt = sym (line_of_start bytes k (lines_before bytes k lt))
