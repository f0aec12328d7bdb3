-- The first row of what is left of a line.
use Rattle.std.proofs.Common.{◌≡◌, ℕ, zero, suc, ◌+◌, ◌-◌, ◌<◌, ◌≤◌, Bool, true, false, ◌&&◌, nat_lt, List, [], ◌∷◌}
use Rattle.std.proofs.Common.{◌++◌, map, length, take, drop, get_or, refl, sym, ap, ap₂, ◌∙◌, if◌then◌else◌, arith}
use Rattle.std.proofs.Common.{drop-drop, length-drop, zero-add, eqb-true}
use Rattle.std.proofs.Math.Seq.{take-add}
use Rattle.std.proofs.lemmas.Bool.Decides.{nat_tests}
use Rattle.std.proofs.lemmas.List.{take-map, length-map}
use Rattle.std.proofs.lemmas.List.Sums.{sum_by-cons}
use Rattle.unicode_width.specs.Width.{char_width}
use Rattle.miette_text.specs.rules.Wrapping.{Cuts, Word, columns, rows, is_space}
use Rattle.miette_runs.specs.rules.Cells.{TaggedChar, width}
use Rattle.miette_text.specs.steps.Ends.{codes_of, row_cells, gap_len, code_after, rows_left, IsPart}
use Rattle.miette_text.specs.steps.Ends.{part_len, words_after}
use Rattle.miette_runs.specs.steps.Cells.{code_columns}
use Rattle.miette_text.proofs.Packing.{pack, pack-rows}
use Rattle.miette_text.proofs.Parting.{drop-codes, part-some, words-next}

-- ---- columns

pub columns-codes : (cs : List TaggedChar) → columns cs ≡ code_columns (codes_of cs)
columns-codes [] = refl
columns-codes (c ∷ cs) = sum_by-cons (λ (c : TaggedChar). width c.code) c cs
    ∙ ap (λ n. width c.code + n) (columns-codes cs)
    ∙ sym (sum_by-cons width c.code (codes_of cs))

pub space-width : (c : ℕ) → c ≡ 32 → width c ≡ 1
unfolding char_width
space-width c h = grind (arith, nat_tests)

pub gap-columns : (cs : List ℕ) → code_columns (take (gap_len cs) cs) ≡ gap_len cs
gap-columns [] = refl
gap-columns (c ∷ cs) = elim (is_space c) as (λ v. is_space c ≡ v
    → code_columns (take (if v then suc (gap_len cs) else 0) (c ∷ cs)) ≡ (if v then suc (gap_len cs) else 0)) [
      | true ↦ λ e. (let w : width c ≡ 1 = space-width c (eqb-true c 32 e) in sum_by-cons width c (take (gap_len cs) cs)
          ∙ omega (arith, gap-columns cs))
      | false ↦ λ e. refl
    ] refl

pub take-codes : (n : ℕ) (cs : List TaggedChar) → codes_of (take n cs) ≡ take n (codes_of cs)
take-codes n cs = sym (take-map (λ (c : TaggedChar). c.code) n cs)

-- ---- the next part

abbrev part_of : ℕ → ℕ → List TaggedChar → Word
part_of n m cs = record { letters = take n cs; spaces = take m (drop n cs) }

left-codes : (cells : List TaggedChar) (codes : List ℕ) (end : ℕ) → codes_of cells ≡ codes → codes_of (drop end cells)
    ≡ drop end codes
left-codes cells codes end e = sym (drop-codes end cells) ∙ ap (drop end) e

left-some : (cells : List TaggedChar) (codes : List ℕ) (end : ℕ) → codes_of cells ≡ codes → end < length codes → 0
    < length (drop end cells)
left-some cells codes end e l = omega (
  arith,
  length-drop {A = TaggedChar} end cells,
  length-map cells (λ (c : TaggedChar). c.code),
  ap length e,
)

next-part : (left after : List TaggedChar → List Word) (end n m : ℕ) (cells : List TaggedChar) (codes : List ℕ) →
    codes_of cells ≡ codes → IsPart left after (drop end codes) n m →
    left (drop end cells) ≡ part_of n m (drop end cells) ∷ after (drop (end + (n + m)) cells)
next-part left after end n m cells codes e part =
    part (drop end cells) (left-codes cells codes end e)
    ∙ ap (λ us. part_of n m (drop end cells) ∷ after us) (drop-drop (n + m) end cells)

letters-columns : (end n : ℕ) (cells : List TaggedChar) (codes : List ℕ) → codes_of cells ≡ codes
    → columns (take n (drop end cells)) ≡ code_columns (take n (drop end codes))
letters-columns end n cells codes e = columns-codes (take n (drop end cells))
    ∙ ap code_columns (take-codes n (drop end cells) ∙ ap (take n) (left-codes cells codes end e))

spaces-columns : (end n m : ℕ) (cells : List TaggedChar) (codes : List ℕ) → codes_of cells ≡ codes →
    code_columns (take m (drop n (drop end codes))) ≡ m → columns (take m (drop n (drop end cells))) ≡ m
spaces-columns end n m cells codes e q =
    columns-codes (take m (drop n (drop end cells)))
    ∙ ap code_columns (take-codes m (drop n (drop end cells))
    ∙ ap (take m) (sym (drop-codes n (drop end cells)) ∙ ap (drop n) (left-codes cells codes end e)))
    ∙ q

-- what is said of the codes from a place on
pub part-here : (left after : List TaggedChar → List Word) (s n m : ℕ) (cs rest : List ℕ) → rest ≡ drop s cs →
    IsPart left after rest n m → IsPart left after (drop s cs) n m
part-here left after s n m cs rest is part = λ cells e. part cells (e ∙ sym is)

-- The part at the front, where words end at spaces.
pub spaced-part : (cuts : Cuts) (before n m last : ℕ) (codes : List ℕ) → 0 < length codes → n
    ≡ part_len is_space cuts before 0 codes → m ≡ gap_len (drop n codes) → last ≡ code_after before (n + m) codes →
    IsPart (words_after cuts before) (words_after cuts last) codes n m
spaced-part cuts before n m last codes l p q f = λ cells e.
    words-next cuts before n m cells (omega (arith, length-map cells (λ (c : TaggedChar). c.code), ap length e))
    (p ∙ ap (part_len is_space cuts before 0) (sym e)) (q ∙ ap (λ xs. gap_len (drop n xs)) (sym e))
    ∙ ap (λ b. part_of n m cells ∷ words_after cuts b (drop (n + m) cells))
    (ap (code_after before (n + m)) e ∙ sym f)

pub spaced-some : (cuts : Cuts) (before n m : ℕ) (codes : List ℕ) → 0 < length codes → n
    ≡ part_len is_space cuts before 0 codes → m ≡ gap_len (drop n codes) → 0 < n + m
spaced-some cuts before n m codes l p q =
    let some = part-some cuts before codes l in
    let k : m ≡ gap_len (drop (part_len is_space cuts before 0 codes) codes) = q
    ∙ ap (λ n. gap_len (drop n codes)) p in
    omega arith

-- ---- the steps

abbrev packed : (List TaggedChar → List Word) → ℕ → ℕ → ℕ → ℕ → List TaggedChar → List (List TaggedChar)
packed left room further end used cells = pack (nat_lt 0 end) (take end cells) used room further
    (left (drop end cells))

pub row-fits : (left after : List TaggedChar → List Word) (room further end n m used wide sums : ℕ)
    (cells : List TaggedChar)
    (codes : List ℕ) → codes_of cells ≡ codes → IsPart left after (drop end codes) n m →
    code_columns (take m (drop n (drop end codes))) ≡ m → wide ≡ used + code_columns (take n (drop end codes)) →
    (nat_lt 0 end && nat_lt room wide) ≡ false → sums ≡ wide + m → 0 < n + m →
    packed left room further end used cells ≡ packed after room further ((end + n) + m) sums cells
row-fits left after room further end n m used wide sums cells codes e part q w t g some =
    let rest = drop end cells in
    let ws = after (drop (end + (n + m)) cells) in
    let lc : columns (take n rest) ≡ code_columns (take n (drop end codes)) = letters-columns end n cells codes e in
    let sc : columns (take m (drop n rest)) ≡ m = spaces-columns end n m cells codes e q in
    let wc : wide ≡ used + columns (take n rest) = w ∙ ap (λ k. used + k) (sym lc) in
    let yes : nat_lt 0 ((end + n) + m) ≡ true = (let z : 0 < (end + n) + m = omega arith in grind (arith, nat_tests)) in
    let row : take end cells ++ take n rest ++ take m (drop n rest) ≡ take ((end + n) + m) cells =
    ap₂ (λ us vs. us ++ take m vs) (sym (take-add end n cells)) (drop-drop n end cells)
    ∙ sym (take-add (end + n) m cells) in
    let total : used + (columns (take n rest) + columns (take m (drop n rest))) ≡ wide + m = omega arith in
    ap (pack (nat_lt 0 end) (take end cells) used room further) (next-part left after end n m cells codes e part)
    ∙ ap (λ (v : Bool). if v then take end cells ∷ pack true (take n rest ++ take m (drop n rest))
    (columns (take n rest) + columns (take m (drop n rest))) further further ws
    else pack true (take end cells ++ take n rest ++ take m (drop n rest))
    (used + (columns (take n rest) + columns (take m (drop n rest)))) room further ws)
    (ap (λ k. nat_lt 0 end && nat_lt room k) (sym wc) ∙ t)
    ∙ ap₂ (λ us k. pack true us k room further ws) row total
    ∙ ap₂ (λ v k. pack v (take ((end + n) + m) cells) (wide + m) room further (after (drop k cells))) (sym yes)
    (omega arith)
    ∙ ap (λ k. packed after room further ((end + n) + m) k cells) (sym g)

rows-begin : (left : List TaggedChar → List Word) (further : ℕ) (cells : List TaggedChar) (w : Word) (ws : List Word)
    → 0
    < length cells → left cells ≡ w ∷ ws →
    pack true (w.letters ++ w.spaces) (columns w.letters + columns w.spaces) further further ws
    ≡ rows_left left further cells
rows-begin left further [] w ws l e = absurd (omega arith)
rows-begin left further (c ∷ cs) w ws l e =
    ap (λ k. pack true (w.letters ++ w.spaces) k further further ws)
    (sym (zero-add (columns w.letters + columns w.spaces)))
    ∙ ap (pack false [] 0 further further) (sym e)
    ∙ pack-rows further further (left (c ∷ cs))

pub row-ends : (first left after : List TaggedChar → List Word) (room further end n m used wide : ℕ)
    (cells : List TaggedChar)
    (codes : List ℕ) → codes_of cells ≡ codes → end < length codes → IsPart left after (drop end codes) n m →
    wide ≡ used + code_columns (take n (drop end codes)) → (nat_lt 0 end && nat_lt room wide) ≡ true →
    pack false [] 0 room further (first cells) ≡ packed left room further end used cells →
    map row_cells (rows room further (first cells)) ≡ take end cells ∷ rows_left left further (drop end cells)
row-ends first left after room further end n m used wide cells codes e l part w t i =
    let rest = drop end cells in
    let ws = after (drop (end + (n + m)) cells) in
    let lc : columns (take n rest) ≡ code_columns (take n (drop end codes)) = letters-columns end n cells codes e in
    let wc : wide ≡ used + columns (take n rest) = w ∙ ap (λ k. used + k) (sym lc) in
    let next = next-part left after end n m cells codes e part in
    sym (pack-rows room further (first cells))
    ∙ i
    ∙ ap (pack (nat_lt 0 end) (take end cells) used room further) next
    ∙ ap (λ (v : Bool). if v then take end cells ∷ pack true (take n rest ++ take m (drop n rest))
    (columns (take n rest) + columns (take m (drop n rest))) further further ws
    else pack true (take end cells ++ take n rest ++ take m (drop n rest))
    (used + (columns (take n rest) + columns (take m (drop n rest)))) room further ws)
    (ap (λ k. nat_lt 0 end && nat_lt room k) (sym wc) ∙ t)
    ∙ ap (λ us. take end cells ∷ us) (rows-begin left further rest (part_of n m rest) ws
    (left-some cells codes end e l) next)

none-left : (cells : List TaggedChar) (end : ℕ) → length cells ≤ end → drop end cells ≡ []
none-left [] zero h = refl
none-left [] (suc n) h = refl
none-left (c ∷ cs) zero h = absurd (omega arith)
none-left (c ∷ cs) (suc n) h = none-left cs n (omega arith)

pub row-whole : (first left : List TaggedChar → List Word) (room further end used : ℕ) (cells : List TaggedChar)
    (codes : List ℕ) →
    left [] ≡ [] → codes_of cells ≡ codes → length codes ≤ end →
    pack false [] 0 room further (first cells) ≡ packed left room further end used cells →
    map row_cells (rows room further (first cells)) ≡ take end cells ∷ rows_left left further (drop end cells)
row-whole first left room further end used cells codes h e l i =
    let z : drop end cells ≡ [] = none-left cells end (omega
    (arith, length-map cells (λ (c : TaggedChar). c.code), ap length e)) in
    sym (pack-rows room further (first cells))
    ∙ i
    ∙ ap (pack (nat_lt 0 end) (take end cells) used room further) (ap left z ∙ h)
    ∙ ap (λ us. take end cells ∷ rows_left left further us) (sym z)

-- ---- the code before

pub after-at : (a n d : ℕ) (cs : List ℕ) → n < length cs → get_or cs n d ≡ code_after a (suc n) cs
after-at a n d [] l = absurd (omega arith)
after-at a zero d (c ∷ cs) l = refl
after-at a (suc n) d (c ∷ cs) l = after-at c n d cs (omega arith)

pub after-last : (a k d : ℕ) (cs : List ℕ) → 0 < k → k ≤ length cs → get_or cs (k - 1) d ≡ code_after a k cs
after-last a k d cs l h = let e : suc (k - 1) ≡ k = omega arith in after-at a (k - 1) d cs (omega arith)
    ∙ ap (λ k. code_after a k cs) e
