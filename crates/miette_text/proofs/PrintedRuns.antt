-- Printable ASCII without a hyphen: each character has a column, and no word is cut after one.
use Rattle.std.proofs.Common.{◌≡◌, ℕ, zero, suc, ◌+◌, ◌<◌, ◌≤◌, Bool, true, false, ◌&&◌, ◌==◌}
use Rattle.std.proofs.Common.{List, [], ◌∷◌, ◌++◌, get_or, length, take, refl, sym, ap, ap₂, ◌∙◌, arith}
use Rattle.std.proofs.lemmas.Bool.{and_parts}
use Rattle.std.proofs.lemmas.Bool.Decides.{nat_tests}
use Rattle.std.proofs.lemmas.List.{take_more}
use Rattle.std.proofs.lemmas.List.Sums.{sum_by-cons}
use Rattle.miette_line_breaks.specs.views.AsciiState.{is_printable}
use Rattle.miette_runs.specs.rules.Cells.{width}
use Rattle.miette_runs.specs.steps.Cells.{code_columns}
use Rattle.miette_text.specs.rules.Wrapping.{Cuts}
use Rattle.miette_text.specs.steps.Ends.{part_len}
use Rattle.miette_text.specs.views.Breaks.{all_printed, is_printed, never}
use Rattle.miette_text.proofs.Fitting.{printed-width}
use Rattle.miette_text.proofs.SolidRuns.{chosen, has_room, no_part, no_row}

printed-hyphen : (c : ℕ) → is_printed c ≡ true → (c == 45) ≡ false
printed-hyphen c h = grind (arith, nat_tests)

column : (c : ℕ) → is_printed c ≡ true → width c ≡ 1
column c h = printed-width c (grind (arith, nat_tests)) (grind (arith, nat_tests))

-- where they have room they are one part
pub printed-part : (cuts : Cuts) (before used j : ℕ) (cs : List ℕ) → all_printed cs ≡ true → j ≡ used + length cs →
    j ≤ cuts.narrow → part_len never cuts before used cs ≡ length cs
printed-part cuts before used j [] h e r = refl
printed-part cuts before used j (c ∷ cs) h e r =
    let p = and_parts (is_printed c) (all_printed cs) h in
    let w = column c p.0 in
    let more = part_len never cuts c (used + width c) cs in
    let none = no_row cuts used (width c) (has_room cuts.narrow used (width c) w (omega (arith, e, r))) in
    let whole = no_part cuts c before cs (printed-hyphen c p.0) in
    let i : more ≡ length cs = printed-part cuts c (used + width c) j cs p.1 (omega (arith, e, w)) r in
    ap₂ (λ b d. chosen false b d more) none whole
    ∙ (let s : suc more ≡ suc (length cs) = omega (arith, i) in s)

pub printed-columns : (cs : List ℕ) → all_printed cs ≡ true → code_columns cs ≡ length cs
printed-columns [] h = refl
printed-columns (c ∷ cs) h =
    let p = and_parts (is_printed c) (all_printed cs) h in
    let s : code_columns (c ∷ cs) ≡ width c + code_columns cs = sum_by-cons width c cs in
    omega (arith, s, column c p.0, printed-columns cs p.1)

-- so are fewer of them
both : (a b : Bool) → a ≡ true → b ≡ true → (a && b) ≡ true
both a b h k = ap₂ (λ x y. x && y) h k

pub printed-fewer : (b k : ℕ) (cs : List ℕ) → b ≤ k → all_printed (take k cs) ≡ true → all_printed (take b cs) ≡ true
printed-fewer zero k cs l h = refl
printed-fewer (suc b) k [] l h = refl
printed-fewer (suc b) zero (c ∷ cs) l h = absurd (omega (arith, l))
printed-fewer (suc b) (suc k) (c ∷ cs) l h =
    let p = and_parts (is_printed c) (all_printed (take k cs)) h in
    both (is_printed c) (all_printed (take b cs)) p.0 (printed-fewer b k cs (omega (arith, l)) p.1)

-- ---- one more

printed-append : (cs : List ℕ) (c : ℕ) → all_printed cs ≡ true → is_printed c ≡ true →
    all_printed (cs ++ c ∷ []) ≡ true
printed-append [] c h k = both (is_printed c) true k refl
printed-append (b ∷ cs) c h k =
    let p = and_parts (is_printed b) (all_printed cs) h in
    both (is_printed b) (all_printed (cs ++ c ∷ [])) p.0 (printed-append cs c p.1 k)

pub printed-next : (i c : ℕ) (cs : List ℕ) → c ≡ get_or cs i c → i < length cs → all_printed (take i cs) ≡ true →
    is_printed c ≡ true → all_printed (take (i + 1) cs) ≡ true
printed-next i c cs e l h k =
    ap all_printed (take_more cs i c l ∙ ap (λ d. take i cs ++ d ∷ []) (sym e)) ∙ printed-append (take i cs) c h k

pub printable-printed : (c : ℕ) → is_printable c ≡ true → (c == 45) ≡ false → is_printed c ≡ true
printable-printed c h k = grind (arith, nat_tests)
