-- Where blocks begin and end, lines of the applied text do.
use Rattle.std.proofs.Common.{ℕ, zero, suc, ◌+◌, ◌-◌, ◌<◌, ◌≤◌, ◌≡◌, Bool, true, false, cond, ltb, List, [], ◌∷◌, ◌++◌}
use Rattle.std.proofs.Common.{◌&&◌}
use Rattle.std.proofs.Common.{length, take, drop, refl, sym, ap, ◌∙◌, subst, inl, inr, arith, append_assoc}
use Rattle.std.specs.Prelude.{◌==◌, slice_index, slice_range}
use Rattle.std.proofs.lemmas.Bool.{and_parts, cases_lt, lt-ltb, ltb-true}
use Rattle.std.proofs.lemmas.Bool.Decides.{nat_tests}
use Rattle.std.proofs.lemmas.List.{drop_all, get_or-drop, get_or_append_left, length-append, length-drop}
use Rattle.miette_lines.proofs.Cases.{by_cases}
use Rattle.miette_lines.specs.rules.Lines.{LF, CR, ends_line, line_of, line_start, line_end}
use Rattle.miette_lines.proofs.Places.{line_of-is, line_of_all, line_start-is, line_start_le}
use Rattle.miette_lines.proofs.Scans.{after, ends_before}
use Rattle.miette_fixes.specs.rules.Edits.{Replacement, end_of}
use Rattle.miette_fixes.specs.rules.Applying.{text_from}
use Rattle.miette_lines.proofs.Places.{line_end_after, line_end_beyond, line_of_start, line_start_first}
use Rattle.miette_lines.proofs.Scans.{after_lt}
use Rattle.miette_lines.proofs.Parts.{part_length}
use Rattle.miette_fixes.specs.views.Ordered.{FitFrom}
use Rattle.miette_fix_rows.specs.rules.Blocks.{block_from, block_to, joins_terminator, edited_between, touched_from}
use Rattle.miette_fix_rows.specs.rules.Blocks.{touched_to}
use Rattle.miette_fix_rows.proofs.Applied.{text_over}
use Rattle.miette_fix_rows.proofs.AppliedBlocks.{far_next, flat}
use Rattle.miette_fix_rows.proofs.Chains.{Chain, block_fits, block_order, block_within}
use Rattle.miette_fix_rows.proofs.Chains.{last_end, last_within, to_line}
use Rattle.miette_fix_rows.proofs.PartsOfParts.{drop_front, slice_at}
use Rattle.miette_fix_rows.proofs.Places.{block_from_le}
use Rattle.miette_fix_rows.proofs.Seams.{Ended, Meet}
use Rattle.miette_fix_rows.proofs.Sources.{At}

-- ---- where texts meet

-- a line ends before a text that stands at an offset
abbrev pub EndsBefore : List ℕ → ℕ → List ℕ → Type 0
EndsBefore bytes at text = (k : ℕ) → suc k ≡ at → 0 < length text
    → ends_line (slice_index bytes k) (slice_index text 0) ≡ true

-- the first bytes of some meet such a text
pub meet_front : (n : ℕ) (bs text : List ℕ) → n ≤ length bs → EndsBefore bs n text → Meet (take n bs) text
meet_front zero bs text le h = tt
meet_front (suc n) [] text le h = tt
meet_front (suc zero) (b ∷ bs) [] le h = tt
meet_front (suc zero) (b ∷ bs) (t ∷ text) le h = h 0 refl (omega arith)
meet_front (suc (suc n)) (b ∷ []) text le h = absurd (omega (arith, le))
meet_front (suc (suc n)) (b ∷ c ∷ cs) text le h =
    meet_front (suc n) (c ∷ cs) text (omega (arith, le)) (λ k e lt. h (suc k) (omega (arith, e)) lt)

-- and so does a part up to an offset
pub meet_part : (bs text : List ℕ) (p q : ℕ) → p ≤ q → q ≤ length bs → EndsBefore bs q text
    → Meet (slice_range bs p q) text
meet_part bs text p q le high h =
    meet_front (q - p) (drop p bs) text (omega (arith, high, length-drop p bs))
    (λ k e lt. ap (λ b. ends_line b (slice_index text 0)) (get_or-drop p bs k 0)
    ∙ h (p + k) (omega (arith, e, le)) lt)

pub meet_none : (xs : List ℕ) → Meet xs []
meet_none [] = tt
meet_none (x ∷ []) = tt
meet_none (x ∷ y ∷ xs) = meet_none (y ∷ xs)

-- what stands in front doesn't matter
pub meet_after : (xs ys text : List ℕ) → 0 < length ys → Meet ys text → Meet (xs ++ ys) text
meet_after [] ys text some h = h
meet_after (x ∷ []) [] text some h = absurd (omega (arith, some))
meet_after (x ∷ []) (y ∷ ys) text some h = h
meet_after (x ∷ z ∷ xs) ys text some h = meet_after (z ∷ xs) ys text some h

-- ---- a terminator stands before the start of a line that is there

start-step : (x : Bool) (b j k n : ℕ) (bs : List ℕ) → ends_line b (slice_index bs 0) ≡ x
    → ((i j : ℕ) → i ≤ n → suc j ≡ after i bs → ends_line (slice_index bs j) (slice_index bs (suc j)) ≡ true)
    → suc k ≤ cond x (suc n) n → n ≡ ends_before (length bs) bs → suc j ≡ suc (after (cond x k (suc k)) bs)
    → ends_line (slice_index (b ∷ bs) j) (slice_index bs j) ≡ true
start-step true b zero k n bs e ih le m h = e
start-step true b (suc j) k n bs e ih le m h = ih k j (omega (arith, le)) (omega (arith, h))
start-step false b zero k n [] e ih le m h = absurd (let z : n ≡ 0 = m in omega (arith, le, z))
start-step false b zero k n (c ∷ cs) e ih le m h = absurd (omega (arith, h))
start-step false b (suc j) k n bs e ih le m h = ih (suc k) j le (omega (arith, h))

after_ends : (bs : List ℕ) (k j : ℕ) → k ≤ ends_before (length bs) bs → suc j ≡ after k bs
    → ends_line (slice_index bs j) (slice_index bs (suc j)) ≡ true
after_ends bs zero j le h = absurd (omega (arith, h))
after_ends [] (suc k) j le h = absurd (omega (arith, h))
after_ends (b ∷ bs) (suc k) j le h =
    start-step (ends_line b (slice_index bs 0)) b j k (ends_before (length bs) bs) bs refl (after_ends bs) le refl h

pub start_ends : (source : List ℕ) (k j : ℕ) → k ≤ line_of source (length source) → suc j ≡ line_start source k
    → ends_line (slice_index source j) (slice_index source (suc j)) ≡ true
start_ends source k j le h =
    after_ends source k j (omega (arith, le, line_of-is source (length source))) (h ∙ line_start-is source k)

-- what ends a line before a byte ends one before any other, unless it is CR before LF
ends_other : (b x y : ℕ) → ends_line b x ≡ true → ((b == CR) && (y == LF)) ≡ false → ends_line b y ≡ true
unfolding ends_line
ends_other b x y e f = grind (arith, nat_tests, e, f)

-- ---- heads of texts

head_drop : (bs : List ℕ) (q : ℕ) → slice_index (drop q bs) 0 ≡ slice_index bs q
head_drop bs q = let n : q + 0 ≡ q = omega arith in get_or-drop q bs 0 0 ∙ ap (slice_index bs) n

head_slice : (bs : List ℕ) (q r : ℕ) → q < r → slice_index (slice_range bs q r) 0 ≡ slice_index bs q
head_slice bs q r lt =
    let n : q + 0 ≡ q = omega arith in slice_at bs q r 0 (omega (arith, lt)) ∙ ap (slice_index bs) n

head_text : (bs text rest : List ℕ) (q r : ℕ) → q < r → r ≤ length bs
    → slice_index ((slice_range bs q r ++ text) ++ rest) 0 ≡ slice_index bs q
head_text bs text rest q r lt high =
    let n : length (slice_range bs q r) ≡ r - q = part_length bs q r high in
    get_or_append_left (slice_range bs q r ++ text) rest 0 0
    (omega (arith, length-append (slice_range bs q r) text, n, lt))
    ∙ get_or_append_left (slice_range bs q r) text 0 0 (omega (arith, n, lt)) ∙ head_slice bs q r lt

pub ends_slice : (bs : List ℕ) (q r : ℕ) → r ≤ length bs → Ended bs q → EndsBefore bs q (slice_range bs q r)
ends_slice bs q r high h = λ k e lt.
    let n : length (slice_range bs q r) ≡ r - q = part_length bs q r high in
    ap (ends_line (slice_index bs k)) (head_slice bs q r (omega (arith, lt, n)))
    ∙ h k e (omega (arith, lt, n, high))

-- ---- what stands at the end of a new text

pub new_ending : (source : List ℕ) (to p : ℕ) (block : List Replacement) → 0 < length block → FitFrom to p block
    → (front : List ℕ) × (text_from (take to source) p block ≡ front ++ slice_range source (last_end block) to)
new_ending source to p [] some h = absurd (omega (arith, some))
new_ending source to p (e ∷ []) some h = (
  slice_range (take to source) p e.span.offset ++ e.text,
  ap (λ xs. (slice_range (take to source) p e.span.offset ++ e.text) ++ xs) (drop_front source (end_of e) to h.1),
)
new_ending source to p (e ∷ x ∷ xs) some h =
    let rest = new_ending source to (end_of e) (x ∷ xs) (omega arith) h.2 in
    let front : List ℕ = slice_range (take to source) p e.span.offset ++ e.text in (
      front ++ rest.0,
      ap (λ ys. front ++ ys) rest.1
          ∙ sym (append_assoc front rest.0 (slice_range source (last_end (x ∷ xs)) to)),
    )

at_end : (source : List ℕ) (before : ℕ) (block : List Replacement) (bs : List (List Replacement))
    → Chain source before (block ∷ bs) → length source ≤ last_end block
    → text_from source (block_to source block) (flat bs) ≡ []
at_end source before block [] h ge =
    let last = last_within source before block h.0 h.1 in
    let after : last_end block ≤ line_end source (line_of source (last_end block)) =
    line_end_after source (last_end block) (line_of source (last_end block)) last.1 (omega arith) in
    drop_all (block_to source block) source (omega (arith, after, ge, to_line source block h.0))
at_end source before block (next ∷ bs) h ge =
    let lt : last_end block < block_from source next = h.2 in
    let low : block_from source next ≤ block_to source next =
    block_order source (last_end block) next h.3.0 h.3.1 in
    let high : block_to source next ≤ length source = block_within source next h.3.0 in
    absurd (omega (arith, lt, low, high, ge))

-- a block whose last edit ends where the block does ends with the source, and is the last one
pub last_is_end : (source : List ℕ) (before : ℕ) (block : List Replacement) (bs : List (List Replacement))
    → Chain source before (block ∷ bs) → block_to source block ≤ last_end block
    → text_from source (block_to source block) (flat bs) ≡ []
last_is_end source before block bs h le =
    let line : block_to source block ≡ line_end source (line_of source (last_end block)) = to_line source block h.0 in
    elim (cases_lt (last_end block) (length source)) [
      | inl lt ↦ (let m : last_end block < line_end source (line_of source (last_end block)) =
          line_end_beyond source (last_end block) (line_of source (last_end block)) lt (omega arith) in
          absurd (omega (arith, m, line, le)))
      | inr ge ↦ at_end source before block bs h ge
    ]

-- ---- a line ends before what stands where a block begins

start_some : (source : List ℕ) (k : ℕ) → 0 < line_start source k → 0 < k
start_some source zero h = absurd (omega (arith, h, line_start_first source))
start_some source (suc k) h = omega arith

-- where the line before is one of a block's, the block begins before the lines that it touches
joined_before : (source : List ℕ) (e : Replacement) (es : List Replacement)
    → joins_terminator source (e ∷ es) ≡ true → block_from source (e ∷ es) < touched_from source (e ∷ es)
joined_before source e es t =
    let k : ℕ = line_of source e.span.offset in
    let at : ℕ = line_start source k in
    let p = and_parts (ltb 0 at) ((slice_index source (at - 1) == CR)
    && (slice_index (edited_between source at (touched_to source (e ∷ es)) (e ∷ es)) 0 == LF)) t in
    let some : 0 < at = ltb-true 0 at p.0 in
    let whole : k ≤ line_of source (length source) = line_of_all source e.span.offset in
    let same : k ≡ line_of source at = line_of_start source k whole in
    let pos : 0 < k = start_some source k some in
    let from : block_from source (e ∷ es) ≡ line_start source (line_of source at - 1) = rw t refl in
    let lt : after (k - 1) source < after (suc (k - 1)) source =
    after_lt source (k - 1) (omega (arith, whole, pos, line_of-is source (length source))) in
    let a : line_start source (k - 1) ≡ after (k - 1) source = line_start-is source (k - 1) in
    let n : suc (k - 1) ≡ k = omega (arith, pos) in
    let b : at ≡ after (suc (k - 1)) source = line_start-is source k ∙ ap (λ m. after m source) (sym n) in
    let c : line_start source (line_of source at - 1) ≡ line_start source (k - 1) =
    ap (λ m. line_start source (m - 1)) (sym same) in
    omega (arith, lt, a, b, c, from)

-- the new text of a block that begins where it is touched doesn't begin with LF after CR
unjoined : (source : List ℕ) (e : Replacement) (es : List Replacement) (k : ℕ)
    → joins_terminator source (e ∷ es) ≡ false → suc k ≡ touched_from source (e ∷ es)
    → ((slice_index source k == CR) && (slice_index (edited_between source (touched_from source (e ∷ es))
    (touched_to source (e ∷ es)) (e ∷ es)) 0 == LF)) ≡ false
unjoined source e es k f n =
    let at : ℕ = touched_from source (e ∷ es) in
    let y : Bool = slice_index (edited_between source at (touched_to source (e ∷ es)) (e ∷ es)) 0 == LF in
    let some : ltb 0 at ≡ true = lt-ltb 0 at (omega (arith, n)) in
    let m : at - 1 ≡ k = omega (arith, n) in
    ap (λ i. (slice_index source i == CR) && y) (sym m)
    ∙ ap (λ x. x && ((slice_index source (at - 1) == CR) && y)) (sym some) ∙ f

-- a line ends before the new text where it begins
new_head : (source : List ℕ) (before : ℕ) (e : Replacement) (es : List Replacement) (bs : List (List Replacement))
    → Chain source before ((e ∷ es) ∷ bs) → joins_terminator source (e ∷ es) ≡ false
    → EndsBefore source (touched_from source (e ∷ es))
    (edited_between source (touched_from source (e ∷ es)) (touched_to source (e ∷ es)) (e ∷ es)
    ++ text_from source (touched_to source (e ∷ es)) (flat bs))
new_head source before e es bs h f = λ k n lt.
    let at : ℕ = touched_from source (e ∷ es) in
    let to : ℕ = touched_to source (e ∷ es) in
    let new : List ℕ = edited_between source at to (e ∷ es) in
    let rest : List ℕ = text_from source to (flat bs) in
    let here = start_ends source (line_of source e.span.offset) k (line_of_all source e.span.offset) n in
    let from : block_from source (e ∷ es) ≡ at = rw f refl in
    let fits : FitFrom to at (e ∷ es) =
    subst (λ p. FitFrom to p (e ∷ es)) from (block_fits source before (e ∷ es) h.0 h.1) in
    let ending = new_ending source to at (e ∷ es) h.0 fits in
    let within : to ≤ length source = block_within source (e ∷ es) h.0 in
    let long : length (slice_range source (last_end (e ∷ es)) to) ≡ to - last_end (e ∷ es) =
    part_length source (last_end (e ∷ es)) to within in
    elim (cases_lt 0 (length new)) [
      | inl some ↦ (let same : slice_index (new ++ rest) 0 ≡ slice_index new 0 =
          get_or_append_left new rest 0 0 some in
          ap (ends_line (slice_index source k)) same
          ∙ ends_other (slice_index source k) (slice_index source (suc k)) (slice_index new 0) here
          (unjoined source e es k f n))
      | inr none ↦ (let parts : length new ≡ length ending.0 + (to - last_end (e ∷ es)) =
          ap length ending.1 ∙ length-append ending.0 (slice_range source (last_end (e ∷ es)) to)
          ∙ ap (λ m. length ending.0 + m) long in
          let gone : rest ≡ [] = last_is_end source before (e ∷ es) bs h (omega (arith, parts, none)) in
          absurd (omega (arith, lt, length-append new rest, none, ap length gone)))
    ]

-- where a block begins with its first edit
at_first : (source : List ℕ) (before q : ℕ) (e : Replacement) (es : List Replacement) (bs : List (List Replacement))
    → Chain source before ((e ∷ es) ∷ bs) → q ≡ block_from source (e ∷ es) → q ≡ touched_from source (e ∷ es)
    → EndsBefore source q (text_from source q (flat ((e ∷ es) ∷ bs)))
at_first source before q e es bs h a b =
    by_cases {C = EndsBefore source q (text_from source q (flat ((e ∷ es) ∷ bs)))} (joins_terminator source (e ∷ es))
    (λ t. absurd (omega (arith, a, b, joined_before source e es t)))
    (λ f. let fits : FitFrom (touched_to source (e ∷ es)) (touched_from source (e ∷ es)) (e ∷ es) =
    subst (λ p. FitFrom (touched_to source (e ∷ es)) p (e ∷ es)) (sym a ∙ b)
    (block_fits source before (e ∷ es) h.0 h.1) in
    let whole : text_from source (touched_from source (e ∷ es)) ((e ∷ es) ++ flat bs)
    ≡ edited_between source (touched_from source (e ∷ es)) (touched_to source (e ∷ es)) (e ∷ es)
    ++ text_from source (touched_to source (e ∷ es)) (flat bs) =
    text_over source (touched_to source (e ∷ es)) (touched_from source (e ∷ es)) (e ∷ es) (flat bs) fits
    (far_next source before (touched_to source (e ∷ es)) (e ∷ es) bs h (omega arith)) in
    subst (λ p. EndsBefore source p (text_from source p (flat ((e ∷ es) ∷ bs)))) (sym b)
    (subst (λ text. EndsBefore source (touched_from source (e ∷ es)) text) (sym whole)
    (new_head source before e es bs h f)))

-- ---- a line of the applied text ends where one of the source does, before blocks

pub seam_head : (source : List ℕ) (before q : ℕ) (bs : List (List Replacement)) → Chain source before bs
    → At source q bs → q ≤ length source → Ended source q → EndsBefore source q (text_from source q (flat bs))
seam_head source before q [] h low high end = λ k n lt.
    ap (ends_line (slice_index source k)) (head_drop source q) ∙ end k n (omega (arith, lt, length-drop q source))
seam_head source before q ([] ∷ bs) h low high end =
    absurd (let n : 0 < length {A = Replacement} [] = h.0 in omega (arith, n))
seam_head source before q ((e ∷ es) ∷ bs) h low high end =
    let o : ℕ = e.span.offset in
    let inside : end_of e ≤ length source = h.1.1 in
    let from : block_from source (e ∷ es) ≤ touched_from source (e ∷ es) = block_from_le source (e ∷ es) in
    let start : touched_from source (e ∷ es) ≤ o = line_start_le source (line_of source o) o (omega arith) in
    elim (cases_lt q o) [
      | inl lt ↦ (λ k n some.
          ap (ends_line (slice_index source k))
          (head_text source e.text (text_from source (end_of e) (es ++ flat bs)) q o lt (omega (arith, inside)))
          ∙ end k n (omega (arith, lt, inside)))
      | inr ge ↦ at_first source before q e es bs h (omega (arith, ge, low, from, start))
          (omega (arith, ge, low, from, start))
    ]
