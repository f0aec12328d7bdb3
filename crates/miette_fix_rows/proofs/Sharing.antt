-- The last block of some edits.
use Rattle.std.proofs.Common.{ℕ, zero, suc, ◌+◌, ◌-◌, ◌<◌, ◌≤◌, ◌≡◌, true, false, leb, List, [], ◌∷◌, ◌++◌}
use Rattle.std.proofs.Common.{length, min, take, drop, get_or, refl, sym, ap, ap₂, ◌∙◌, subst, arith}
use Rattle.std.proofs.lemmas.List.{drop-append-le, drop-map, drop-take, drop_all, drop_more, length-map}
use Rattle.std.proofs.lemmas.List.{length-take, take-append-drop, take-map, take-take, take_rest}
use Rattle.miette_lines.specs.rules.Lines.{line_of, line_start, line_end}
use Rattle.miette_fixes.specs.rules.Edits.{Replacement, end_of}
use Rattle.miette_fixes.specs.views.Ordered.{FitFrom, edits_of}
use Rattle.miette_fix_rows.specs.rules.Blocks.{block_from, blocks, onto_blocks}
use Rattle.miette_fix_rows.specs.rules.Hunks.{Change, change_of, changes_of, onto_changes}
use Rattle.miette_fix_rows.specs.steps.Sharing.{EndsApart, IsApart, IsBlock, IsLastBlock}
use denote.Ref.{Bor}

-- ---- edits at places of a list

-- an edit at an index, and those after it
pub head_at : (ls : List (Bor Replacement)) (i j : ℕ) (r : Bor Replacement) → i < length ls → r ≡ get_or ls i r
    → j ≡ i + 1 → drop i (edits_of ls) ≡ r.now ∷ drop j (edits_of ls)
head_at ls i j r lt e n =
    drop-map (λ (x : Bor Replacement). x.now) i ls
    ∙ ap edits_of (drop_more ls i r lt ∙ ap (λ x. x ∷ drop (i + 1) ls) (sym e))
    ∙ ap (λ rest. r.now ∷ rest) (sym (drop-map (λ (x : Bor Replacement). x.now) (i + 1) ls))
    ∙ ap (λ m. r.now ∷ drop m (edits_of ls)) (sym n)

pub last_at : (ls : List (Bor Replacement)) (r : Bor Replacement) → 0 < length ls → r ≡ get_or ls (length ls - 1) r
    → drop (length ls - 1) (edits_of ls) ≡ r.now ∷ []
last_at ls r some e =
    let n : length ls ≡ length ls - 1 + 1 = omega (arith, some) in
    let m : length (edits_of ls) ≡ length ls = length-map ls (λ (x : Bor Replacement). x.now) in
    head_at ls (length ls - 1) (length ls) r (omega (arith, some)) e n
    ∙ ap (λ rest. r.now ∷ rest) (drop_all (length ls) (edits_of ls) (omega (arith, m)))

pub rest_is : (ls : List (Bor Replacement)) (i : ℕ)
    → drop i (edits_of ls) ≡ edits_of (take (length ls - i) (drop i ls))
rest_is ls i = drop-map (λ (x : Bor Replacement). x.now) i ls ∙ ap edits_of (sym (take_rest ls i))

-- edits that fit, from one of them on
pub fit_drop : (n at : ℕ) (es : List Replacement) (i : ℕ) (e : Replacement) (rest : List Replacement)
    → FitFrom n at es → drop i es ≡ e ∷ rest → (end_of e ≤ n) × FitFrom n (end_of e) rest
fit_drop n at [] zero e rest h d = absurd (cc)
fit_drop n at [] (suc i) e rest h d = absurd (cc)
fit_drop n at (x ∷ xs) zero e rest h d =
    let p : x ≡ e = cc in
    let q : xs ≡ rest = cc in (
      subst (λ y. end_of y ≤ n) p h.1,
      subst (λ y. FitFrom n (end_of y) rest) p (subst (λ ys. FitFrom n (end_of x) ys) q h.2),
    )
fit_drop n at (x ∷ xs) (suc i) e rest h d = fit_drop n (end_of x) xs i e rest h.2 d

pub ends_within : (n : ℕ) (ls : List (Bor Replacement)) (i : ℕ) (r : Bor Replacement) → FitFrom n 0 (edits_of ls)
    → i < length ls → r ≡ get_or ls i r → end_of r.now ≤ n
ends_within n ls i r h lt e =
    (fit_drop n 0 (edits_of ls) i r.now (drop (i + 1) (edits_of ls)) h (head_at ls i (i + 1) r lt e refl)).0

-- ---- a block in the making

pub one_block : (source : List ℕ) (e : Replacement) (start to o x : ℕ) → o ≡ e.span.offset → x ≡ end_of e
    → start ≡ line_start source (line_of source o) → start ≤ o → to ≡ line_end source (line_of source x) → x ≤ to
    → to ≤ length source → IsBlock source start to (e ∷ [])
one_block source e start to o x a b s low t high within = record {
  some = omega arith;
  start = s ∙ ap (λ m. line_start source (line_of source m)) a;
  ending = t ∙ ap (λ m. line_end source (line_of source m)) b;
  within = within;
  order = omega (arith, a, b, low, high);
  fit = (omega (arith, a, low), omega (arith, b, high), omega (arith, b, high));
}

pub grow_block : (source : List ℕ) (e : Replacement) (rest : List Replacement) (n start next to : ℕ)
    → IsBlock source next to rest → FitFrom n (end_of e) rest
    → start ≡ line_start source (line_of source e.span.offset) → start ≤ e.span.offset
    → IsBlock source start to (e ∷ rest)
grow_block source e [] n start next to b f s low = absurd (omega (arith, b.some))
grow_block source e (x ∷ xs) n start next to b f s low =
    let first : end_of e ≤ x.span.offset = f.0 in
    let last : end_of x ≤ to = b.fit.1 in
    record {
      some = omega arith;
      start = s;
      ending = b.ending;
      within = b.within;
      order = omega (arith, low, first, last);
      fit = (low, omega (arith, first, last), (first, last, b.fit.2));
    }

pub joined : (source : List ℕ) (e : Replacement) (rest later : List Replacement)
    → leb (block_from source rest) (end_of e) ≡ true → blocks source (rest ++ later) ≡ rest ∷ blocks source later
    → blocks source (e ∷ (rest ++ later)) ≡ (e ∷ rest) ∷ blocks source later
joined source e rest later t h = ap (onto_blocks source e) h ∙ rw t refl

pub block_diff : (source : List ℕ) (e : Replacement) (rest later : List Replacement)
    → leb (block_from source rest) (end_of e) ≡ false → blocks source (rest ++ later) ≡ rest ∷ blocks source later
    → IsApart source e (rest ++ later)
block_diff source e rest later f h =
    ap (onto_blocks source e) h ∙ rw f (ap (λ bs. (e ∷ []) ∷ bs) (sym h))

-- ---- what is last

pub ends_last : (source : List ℕ) (es later : List Replacement) (i : ℕ) → suc i ≡ length es
    → EndsApart source es later → blocks source (drop i es ++ later) ≡ drop i es ∷ blocks source later
ends_last source [] later i n h = absurd (omega (arith, n))
ends_last source (e ∷ []) later zero n h = h
ends_last source (e ∷ []) later (suc i) n h = absurd (omega (arith, n))
ends_last source (e ∷ x ∷ es) later zero n h = absurd (omega (arith, n))
ends_last source (e ∷ x ∷ es) later (suc i) n h = ends_last source (x ∷ es) later i (omega (arith, n)) h

pub ends_take : (source : List ℕ) (es : List Replacement) (i : ℕ) (e : Replacement) (rest later : List Replacement)
    → drop i es ≡ e ∷ rest → IsApart source e later → EndsApart source (take (suc i) es) later
ends_take source [] zero e rest later d h = absurd (cc)
ends_take source [] (suc i) e rest later d h = absurd (cc)
ends_take source (x ∷ xs) zero e rest later d h =
    let p : e ≡ x = cc in subst (λ y. IsApart source y later) p h
ends_take source (x ∷ []) (suc zero) e rest later d h = absurd (cc)
ends_take source (x ∷ []) (suc (suc i)) e rest later d h = absurd (cc)
ends_take source (x ∷ y ∷ ys) (suc i) e rest later d h = ends_take source (y ∷ ys) i e rest later d h

-- ---- edits before an index, and those from it on

seam : (es : List Replacement) (low high : ℕ) → low ≤ length (take high es)
    → drop low (take high es) ++ drop high es ≡ drop low es
seam es low high h = sym (drop-append-le low (take high es) (drop high es) h) ∙ ap (drop low) (take-append-drop high es)

ends_none : (source : List ℕ) (es : List Replacement) → EndsApart source es []
ends_none source [] = tt
ends_none source (e ∷ []) = refl
ends_none source (e ∷ x ∷ es) = ends_none source (x ∷ es)

pub apart_all : (source : List ℕ) (es : List Replacement) (n : ℕ) → length es ≤ n
    → EndsApart source (take n es) (drop n es)
apart_all source es n h =
    subst (λ later. EndsApart source (take n es) later) (sym (drop_all n es h)) (ends_none source (take n es))

fit_start : (n at : ℕ) (es : List Replacement) → FitFrom n at es → at ≤ n
fit_start n at [] h = h
fit_start n at (x ∷ xs) h =
    let low : at ≤ x.span.offset = h.0 in
    let high : end_of x ≤ n = h.1 in
    omega (arith, low, high)

fit_take : (n at k : ℕ) (es : List Replacement) → FitFrom n at es → FitFrom n at (take k es)
fit_take n at zero es h = fit_start n at es h
fit_take n at (suc k) [] h = h
fit_take n at (suc k) (x ∷ xs) h = (h.0, h.1, fit_take n (end_of x) k xs h.2)

front_is : (ls : List (Bor Replacement)) (k : ℕ) → take k (edits_of ls) ≡ edits_of (take k ls)
front_is ls k = take-map (λ (x : Bor Replacement). x.now) k ls

pub fit_front : (n k : ℕ) (ls : List (Bor Replacement)) → FitFrom n 0 (edits_of ls)
    → FitFrom n 0 (edits_of (take k ls))
fit_front n k ls h = subst (λ es. FitFrom n 0 es) (front_is ls k) (fit_take n 0 k (edits_of ls) h)

pub part_is : (ls : List (Bor Replacement)) (low high : ℕ) → low ≤ high
    → drop low (edits_of (take high ls)) ≡ edits_of (take (high - low) (drop low ls))
part_is ls low high le =
    let n : high ≡ low + (high - low) = omega (arith, le) in
    drop-map (λ (x : Bor Replacement). x.now) low (take high ls)
    ∙ ap edits_of (ap (λ m. drop low (take m ls)) n ∙ drop-take low (high - low) ls)

-- ---- the changes of blocks, from the last one on

pub blocks_more : (source : List ℕ) (ls : List (Bor Replacement)) (low high : ℕ)
    → IsLastBlock source (edits_of (take high ls)) low
    → EndsApart source (take high (edits_of ls)) (drop high (edits_of ls)) → low < length (take high ls)
    → blocks source (drop low (edits_of ls))
    ≡ drop low (edits_of (take high ls)) ∷ blocks source (drop high (edits_of ls))
blocks_more source ls low high last apart lt =
    let es : List Replacement = edits_of ls in
    let e : take high es ≡ edits_of (take high ls) = front_is ls high in
    let n : length (edits_of (take high ls)) ≡ length (take high ls) =
    length-map (take high ls) (λ (x : Bor Replacement). x.now) in
    let whole : blocks source (drop low (edits_of (take high ls)) ++ drop high es)
    ≡ drop low (edits_of (take high ls)) ∷ blocks source (drop high es) =
    last.whole (drop high es) (subst (λ xs. EndsApart source xs (drop high es)) e apart) in
    let joint : drop low (take high es) ++ drop high es ≡ drop low es =
    seam es low high (omega (arith, lt, n, ap length e)) in
    ap (blocks source) (sym joint ∙ ap (λ xs. drop low xs ++ drop high es) e) ∙ whole

pub apart_more : (source : List ℕ) (ls : List (Bor Replacement)) (low high : ℕ)
    → IsLastBlock source (edits_of (take high ls)) low
    → EndsApart source (take high (edits_of ls)) (drop high (edits_of ls)) → low < length (take high ls)
    → EndsApart source (take low (edits_of ls)) (drop low (edits_of ls))
apart_more source ls low high last apart lt =
    let es : List Replacement = edits_of ls in
    let e : take high es ≡ edits_of (take high ls) = front_is ls high in
    let n : length (edits_of (take high ls)) ≡ length (take high ls) =
    length-map (take high ls) (λ (x : Bor Replacement). x.now) in
    let m : length (take high es) ≡ min high (length es) = length-take high es in
    let joint : drop low (take high es) ++ drop high es ≡ drop low es =
    seam es low high (omega (arith, lt, n, ap length e)) in
    let front : take low (edits_of (take high ls)) ≡ take low es =
    ap (take low) (sym e) ∙ take-take low high es (omega (arith, lt, n, m, ap length e)) in
    let later : drop low (edits_of (take high ls)) ++ drop high es ≡ drop low es =
    ap (λ xs. drop low xs ++ drop high es) (sym e) ∙ joint in
    subst (λ xs. EndsApart source xs (drop low es)) front
    (subst (λ xs. EndsApart source (take low (edits_of (take high ls))) xs) later
    (last.apart (drop high es) (subst (λ xs. EndsApart source xs (drop high es)) e apart)))

pub changes_more : (source : List ℕ) (block later here : List Replacement) (change : Change)
    (before now : List Change) → blocks source here ≡ block ∷ blocks source later → change ≡ change_of source block
    → before ≡ changes_of source (blocks source later) → now ≡ onto_changes change before
    → now ≡ changes_of source (blocks source here)
changes_more source block later here change before now b e f n =
    n ∙ ap₂ onto_changes e f ∙ ap (changes_of source) (sym b)
