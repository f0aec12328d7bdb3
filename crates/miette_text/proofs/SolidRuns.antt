-- Codes from `.` to `~` in a row: each has a column, and none ends a word or a part of one.
use Rattle.std.proofs.Common.{◌≡◌, ℕ, zero, suc, ◌+◌, ◌≤◌, min, Bool, true, false, ◌&&◌, ◌==◌, nat_lt, if◌then◌else◌}
use Rattle.std.proofs.Common.{List, [], ◌∷◌, length, take, drop, refl, ap, ap₂, ◌∙◌, arith}
use Rattle.std.proofs.lemmas.Bool.Decides.{nat_tests}
use Rattle.std.proofs.lemmas.List.Sums.{sum_by-cons}
use Rattle.std.proofs.Math.Bool.{and-false}
use Rattle.miette_runs.specs.rules.Cells.{width}
use Rattle.miette_runs.specs.steps.Cells.{code_columns}
use Rattle.miette_text.specs.rules.Wrapping.{Cuts, is_alphanumeric, is_space}
use Rattle.miette_text.specs.steps.Ends.{begins_word, code_after, is_solid, part_len, solid_len}
use Rattle.miette_text.proofs.Fitting.{printed-width}

pub solid-space : (c : ℕ) → is_solid c ≡ true → is_space c ≡ false
solid-space c h = grind (arith, nat_tests)

solid-hyphen : (c : ℕ) → is_solid c ≡ true → (c == 45) ≡ false
solid-hyphen c h = grind (arith, nat_tests)

solid-low : (c : ℕ) → is_solid c ≡ true → 32 ≤ c
solid-low c h = grind (arith, nat_tests)

solid-high : (c : ℕ) → is_solid c ≡ true → c ≤ 126
solid-high c h = grind (arith, nat_tests)

solid-width : (c : ℕ) → is_solid c ≡ true → width c ≡ 1
solid-width c h = printed-width c (solid-low c h) (solid-high c h)

more_solid : (b : Bool) (n k : ℕ) → suc k ≤ (if b then suc n else 0) → (b ≡ true) × (k ≤ n)
more_solid true n k h = (refl, omega (arith, h))
more_solid false n k h = absurd (omega (arith, h))

abbrev pub chosen : Bool → Bool → Bool → ℕ → ℕ
chosen ends wide hyphen more = if ends then 0 else if wide then 0 else if hyphen then 1 else suc more

pub has_room : (narrow used w : ℕ) → w ≡ 1 → used + 1 ≤ narrow → nat_lt narrow (used + w) ≡ false
has_room narrow used w h r = grind (arith, nat_tests)

-- where a code has room no row ends before it
pub no_row : (cuts : Cuts) (used w : ℕ) → nat_lt cuts.narrow (used + w) ≡ false
    → (cuts.break_words && (nat_lt 0 used && nat_lt cuts.narrow (used + w))) ≡ false
no_row cuts used w room =
    ap (λ b. cuts.break_words && (nat_lt 0 used && b)) room ∙ ap (λ b. cuts.break_words && b)
    (and-false (nat_lt 0 used))
    ∙ and-false cuts.break_words

-- and no part of a word ends after what is no hyphen
pub no_part : (cuts : Cuts) (c before : ℕ) (cs : List ℕ) → (c == 45) ≡ false
    → (cuts.split_hyphens && ((c == 45) && is_alphanumeric before && begins_word cs)) ≡ false
no_part cuts c before cs h =
    ap (λ b. cuts.split_hyphens && (b && is_alphanumeric before && begins_word cs)) h ∙ and-false cuts.split_hyphens

-- those that have room are in the part
pub solid-part : (stop : ℕ → Bool) → ((c : ℕ) → is_solid c ≡ true → stop c ≡ false) →
    (cuts : Cuts) (before used k j : ℕ) (cs : List ℕ) → j ≡ used + k → k ≤ solid_len cs → j ≤ cuts.narrow →
    part_len stop cuts before used cs ≡ k + part_len stop cuts (code_after before k cs) j (drop k cs)
solid-part stop law cuts before used zero j cs e h r =
    let i : used ≡ j = omega (arith, e) in
    let more = part_len stop cuts before j cs in
    ap (λ u. part_len stop cuts before u cs) i ∙ (let z : more ≡ 0 + more = omega arith in z)
solid-part stop law cuts before used (suc k) j [] e h r = absurd (omega (arith, h))
solid-part stop law cuts before used (suc k) j (c ∷ cs) e h r =
    let p = more_solid (is_solid c) (solid_len cs) k h in
    let w = solid-width c p.0 in
    let more = part_len stop cuts c (used + width c) cs in
    let wide = nat_lt 0 used && nat_lt cuts.narrow (used + width c) in
    let test = (c == 45) && is_alphanumeric before && begins_word cs in
    let room : nat_lt cuts.narrow (used + width c) ≡ false =
    has_room cuts.narrow used (width c) w (omega (arith, e, r)) in
    let none : (cuts.break_words && wide) ≡ false = no_row cuts used (width c) room in
    let whole : (cuts.split_hyphens && test) ≡ false = no_part cuts c before cs (solid-hyphen c p.0) in
    let next = part_len stop cuts (code_after c k cs) j (drop k cs) in
    let i : more ≡ k + next = solid-part stop law cuts c (used + width c) k j cs (omega (arith, e, w)) p.1 r in
    ap (λ b. chosen b (cuts.break_words && wide) (cuts.split_hyphens && test) more) (law c p.0)
    ∙ ap₂ (λ b d. chosen false b d more) none whole
    ∙ (let s : suc more ≡ suc k + next = omega (arith, i) in s)

-- they have a column each
pub solid-columns : (k m j : ℕ) (cs : List ℕ) → j ≡ k + m → k ≤ solid_len cs →
    k + code_columns (take m (drop k cs)) ≡ code_columns (take j cs)
solid-columns zero m j cs e h =
    let f : m ≡ j = omega (arith, e) in
    let all = code_columns (take m cs) in
    (let z : 0 + all ≡ all = omega arith in z) ∙ ap (λ i. code_columns (take i cs)) f
solid-columns (suc k) m j [] e h = absurd (omega (arith, h))
solid-columns (suc k) m zero (c ∷ cs) e h = absurd (omega (arith, e))
solid-columns (suc k) m (suc j) (c ∷ cs) e h =
    let p = more_solid (is_solid c) (solid_len cs) k h in
    let i = solid-columns k m j cs (omega (arith, e)) p.1 in
    let s : code_columns (c ∷ take j cs) ≡ width c + code_columns (take j cs) = sum_by-cons width c (take j cs) in
    omega (arith, i, s, solid-width c p.0)

one_more : (b : Bool) (x y m : ℕ) → x ≡ min y m → (if b then suc x else 0) ≡ min (if b then suc y else 0) (suc m)
one_more true x y m h = omega (arith, h)
one_more false x y m h = omega arith

-- of the first `m` codes they are the least of both
pub solid-least : (m j : ℕ) (cs : List ℕ) → j ≡ min (length cs) m →
    solid_len (take j cs) ≡ min (solid_len cs) m
solid-least m zero [] e = omega arith
solid-least m (suc j) [] e = absurd (omega (arith, e))
solid-least zero zero (c ∷ cs) e = omega arith
solid-least zero (suc j) (c ∷ cs) e = absurd (omega (arith, e))
solid-least (suc m) zero (c ∷ cs) e = absurd (omega (arith, e))
solid-least (suc m) (suc j) (c ∷ cs) e =
    one_more (is_solid c) (solid_len (take j cs)) (solid_len cs) m
    (solid-least m j cs (omega (arith, e)))
