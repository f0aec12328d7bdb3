-- Code units of characters, one character after another.
use Rattle.std.proofs.Common.{◌≡◌, ℕ, zero, suc, ◌+◌, ◌-◌, ◌<◌, ◌≤◌, Bool, false, List, ◌∷◌, length, drop, Some, None}
use Rattle.std.proofs.Common.{refl, ap, ◌∙◌, arith}
use Rattle.std.specs.Prelude.{nat_lt, ◌==◌, if◌then◌else◌}
use Rattle.std.proofs.lemmas.Bool.{eqb-true, false_from_ne_true}
use Rattle.std.proofs.lemmas.List.{drop-drop, drop_all, length-drop}
use Rattle.bstr.specs.Utf8.{decoded, or_replacement}
use Rattle.miette_columns.specs.rules.Cells.{Character, characters}
use Rattle.miette_columns.proofs.Stepping.{characters_end, characters_step}
use Rattle.miette_positions.specs.declared.position.PositionEncoding.{PositionEncoding}
use Rattle.miette_positions.specs.rules.Stops.{units}
use Rattle.miette_read_sarif.specs.rules.Regions.{units_after, units_on}

abbrev pub made : ℕ → ℕ → Character
made code size = record { code = code; bytes = size }

module _ (e : PositionEncoding) (bytes : List ℕ) (at count code size : ℕ) where
  pub first_of : at < length bytes → code ≡ or_replacement (decoded (drop at bytes)).char
      → size ≡ (decoded (drop at bytes)).size
      → characters (drop at bytes) ≡ made code size ∷ characters (drop (at + size) bytes)
  first_of h is wide =
      let some : 0 < length (drop at bytes) = omega (arith, length-drop at bytes, h) in
      characters_step (drop at bytes) (drop size (drop at bytes)) code size
      (record { some = some; left_is = refl; code_is = is; size_is = wide })
      ∙ ap (λ l. made code size ∷ characters l) (drop-drop size at bytes)

  pub taken : (b : Bool) → nat_lt count (units e (made code size)) ≡ b → characters (drop at bytes)
      ≡ made code size ∷ characters (drop (at + size) bytes) → units_after e bytes at count
      ≡ (if b then Some at else units_after e bytes (at + size) (count - units e (made code size)))
  taken b test first =
      ap (units_on e at count) first
      ∙ ap (λ t. if t then Some at else units_after e bytes (at + size) (count - units e (made code size))) test

pub ended : (e : PositionEncoding) (bytes : List ℕ) (at count : ℕ) → length bytes ≤ at
    → units_after e bytes at count ≡ (if count == 0 then Some at else None)
ended e bytes at count h = ap (units_on e at count) (characters_end (drop at bytes) (drop_all at bytes h))

pub none_ended : (e : PositionEncoding) (bytes : List ℕ) (at count : ℕ) → length bytes ≤ at → 0 < count
    → units_after e bytes at count ≡ None
none_ended e bytes at zero h some = absurd (omega (arith, some))
none_ended e bytes at (suc n) h some =
    let differ : (suc n == 0) ≡ false =
    false_from_ne_true (suc n == 0) (λ e. absurd (omega (arith, eqb-true (suc n) 0 e))) in
    ended e bytes at (suc n) h ∙ ap (λ b. if b then Some at else None) differ
