-- Blocks stand one after another.
use Rattle.std.proofs.Common.{ℕ, ◌+◌, ◌-◌, ◌<◌, ◌≤◌, ◌≡◌, leb, inl, inr, List, [], ◌∷◌}
use Rattle.std.proofs.Common.{length, refl, sym, ◌∙◌, subst, arith}
use Rattle.std.proofs.lemmas.Bool.{cases_lt, leb-false}
use Rattle.miette_lines.proofs.Cases.{by_cases}
use Rattle.miette_lines.specs.rules.Lines.{line_of, line_start, line_end}
use Rattle.miette_lines.proofs.Places.{line_end_after, line_end_le, line_start_le, line_start_mono}
use Rattle.miette_lines.proofs.Places.{line_start_next}
use Rattle.miette_fixes.specs.rules.Edits.{Replacement, end_of}
use Rattle.miette_fixes.specs.views.Ordered.{FitFrom}
use Rattle.miette_fix_rows.specs.rules.Blocks.{block_from, block_to, blocks, joins_terminator, onto_blocks}
use Rattle.miette_fix_rows.specs.rules.Blocks.{touched_from}
use Rattle.miette_fix_rows.proofs.Places.{block_from_le}
use Rattle.miette_fix_rows.proofs.Seams.{Ended, start_ended}

-- where the last edit of a block ends
abbrev pub last_end : List Replacement → ℕ
last_end [] = 0
last_end (edit ∷ []) = end_of edit
last_end (edit ∷ next ∷ edits) = last_end (next ∷ edits)

abbrev pub Before : List ℕ → ℕ → List (List Replacement) → Type 0
Before source at [] = Unit {0}
Before source at (block ∷ blocks) = at < block_from source block

-- blocks of edits that fit, from an offset on, of which none ends where the next one begins
abbrev pub Chain : List ℕ → ℕ → List (List Replacement) → Type 0
Chain source at [] = at ≤ length source
Chain source at (block ∷ blocks) =
    (0 < length block) × FitFrom (length source) at block × Before source (last_end block) blocks
    × Chain source (last_end block) blocks

onto_chain : (source : List ℕ) (at : ℕ) (e : Replacement) (bs : List (List Replacement)) → at ≤ e.span.offset
    → end_of e ≤ length source → Chain source (end_of e) bs → Chain source at (onto_blocks source e bs)
onto_chain source at e [] low high h = (omega arith, (low, high, high), tt, high)
onto_chain source at e ([] ∷ bs) low high h = absurd (let n : 0 < length {A = Replacement} [] = h.0 in omega (arith, n))
onto_chain source at e ((x ∷ xs) ∷ bs) low high h =
    by_cases {C = Chain source at (onto_blocks source e ((x ∷ xs) ∷ bs))} (leb (block_from source (x ∷ xs)) (end_of e))
    (λ t. rw t (omega arith, (low, high, h.1), h.2, h.3))
    (λ f. rw f (omega arith, (low, high, high), leb-false (block_from source (x ∷ xs)) (end_of e) f, h))

pub chain : (source : List ℕ) (at : ℕ) (es : List Replacement) → FitFrom (length source) at es
    → Chain source at (blocks source es)
chain source at [] h = h
chain source at (e ∷ es) h = onto_chain source at e (blocks source es) h.0 h.1 (chain source (end_of e) es h.2)

-- ---- where blocks begin and end

after_line : (source : List ℕ) (x k : ℕ) → x < line_start source k
    → line_end source (line_of source x) ≤ line_start source k
after_line source x k lt =
    elim (cases_lt (line_of source x) k) [
      | inl h ↦ (let m : line_start source (line_of source x + 1) ≤ line_start source k =
          line_start_mono source (line_of source x + 1) k (omega (arith, h)) in
          omega (arith, m, line_start_next source (line_of source x)))
      | inr h ↦ absurd (omega (arith, lt, line_start_le source k x h))
    ]

-- a block begins where some line does
pub from_line : (source : List ℕ) (block : List Replacement) → 0 < length block
    → (k : ℕ) × (block_from source block ≡ line_start source k)
from_line source [] h = absurd (omega (arith, h))
from_line source (e ∷ es) h =
    by_cases {C = (k : ℕ) × (block_from source (e ∷ es) ≡ line_start source k)} (joins_terminator source (e ∷ es))
    (λ t. (line_of source (touched_from source (e ∷ es)) - 1, rw t refl))
    (λ f. (line_of source e.span.offset, rw f refl))

pub to_line : (source : List ℕ) (block : List Replacement) → 0 < length block
    → block_to source block ≡ line_end source (line_of source (last_end block))
to_line source [] h = absurd (omega (arith, h))
to_line source (e ∷ []) h = refl
to_line source (e ∷ x ∷ es) h = to_line source (x ∷ es) (omega arith)

pub from_ended : (source : List ℕ) (block : List Replacement) → 0 < length block
    → Ended source (block_from source block)
from_ended source block h =
    let f = from_line source block h in
    subst (λ n. Ended source n) (sym f.1) (start_ended source f.0)

pub to_ended : (source : List ℕ) (block : List Replacement) → 0 < length block → Ended source (block_to source block)
to_ended source block h =
    subst (λ n. Ended source n)
    (line_start_next source (line_of source (last_end block)) ∙ sym (to_line source block h))
    (start_ended source (line_of source (last_end block) + 1))

pub last_within : (source : List ℕ) (at : ℕ) (block : List Replacement) → 0 < length block
    → FitFrom (length source) at block → (at ≤ last_end block) × (last_end block ≤ length source)
last_within source at [] h f = absurd (omega (arith, h))
last_within source at (e ∷ []) h f =
    let low : at ≤ e.span.offset = f.0 in
    let high : end_of e ≤ length source = f.1 in
    (omega (arith, low), high)
last_within source at (e ∷ x ∷ es) h f =
    let low : at ≤ e.span.offset = f.0 in
    let rest = last_within source (end_of e) (x ∷ es) (omega arith) f.2 in
    let next : end_of e ≤ last_end (x ∷ es) = rest.0 in
    (omega (arith, low, next), rest.1)

pub block_order : (source : List ℕ) (at : ℕ) (block : List Replacement) → 0 < length block
    → FitFrom (length source) at block → block_from source block ≤ block_to source block
block_order source at [] h f = absurd (omega (arith, h))
block_order source at (e ∷ es) h f =
    let low : block_from source (e ∷ es) ≤ touched_from source (e ∷ es) = block_from_le source (e ∷ es) in
    let start : touched_from source (e ∷ es) ≤ e.span.offset =
    line_start_le source (line_of source e.span.offset) e.span.offset (omega arith) in
    let own : FitFrom (length source) e.span.offset (e ∷ es) = (omega arith, f.1, f.2) in
    let last = last_within source e.span.offset (e ∷ es) h own in
    let l0 : e.span.offset ≤ last_end (e ∷ es) = last.0 in
    let after : last_end (e ∷ es) ≤ line_end source (line_of source (last_end (e ∷ es))) =
    line_end_after source (last_end (e ∷ es)) (line_of source (last_end (e ∷ es))) last.1 (omega arith) in
    omega (arith, low, start, l0, after, to_line source (e ∷ es) h)

pub block_within : (source : List ℕ) (block : List Replacement) → 0 < length block
    → block_to source block ≤ length source
block_within source block h =
    omega (arith, to_line source block h, line_end_le source (line_of source (last_end block)))

-- the next block begins where one ends, or after that
pub next_after : (source : List ℕ) (at : ℕ) (block next : List Replacement) (bs : List (List Replacement))
    → Chain source at (block ∷ next ∷ bs) → block_to source block ≤ block_from source next
next_after source at block next bs h =
    let f = from_line source next h.3.0 in
    let lt : last_end block < block_from source next = h.2 in
    let m : line_end source (line_of source (last_end block)) ≤ line_start source f.0 =
    after_line source (last_end block) f.0 (omega (arith, lt, f.1)) in
    omega (arith, m, f.1, to_line source block h.0)

-- the edits of a block fit up to where it ends
fit_upto : (n m at : ℕ) (block : List Replacement) → 0 < length block → FitFrom n at block → last_end block ≤ m
    → FitFrom m at block
fit_upto n m at [] some h le = absurd (omega (arith, some))
fit_upto n m at (e ∷ []) some h le = (h.0, le, le)
fit_upto n m at (e ∷ x ∷ xs) some h le =
    let rest : FitFrom m (end_of e) (x ∷ xs) = fit_upto n m (end_of e) (x ∷ xs) (omega arith) h.2 le in
    let first : end_of e ≤ x.span.offset = rest.0 in
    let last : end_of x ≤ m = rest.1 in
    (h.0, omega (arith, first, last), rest)

pub first_at_or_after : (source : List ℕ) (e : Replacement) (es : List Replacement)
    → block_from source (e ∷ es) ≤ e.span.offset
first_at_or_after source e es =
    let low : block_from source (e ∷ es) ≤ touched_from source (e ∷ es) = block_from_le source (e ∷ es) in
    let start : touched_from source (e ∷ es) ≤ e.span.offset =
    line_start_le source (line_of source e.span.offset) e.span.offset (omega arith) in
    omega (arith, low, start)

pub block_fits : (source : List ℕ) (at : ℕ) (block : List Replacement) → 0 < length block
    → FitFrom (length source) at block → FitFrom (block_to source block) (block_from source block) block
block_fits source at [] some h = absurd (omega (arith, some))
block_fits source at (e ∷ es) some h =
    let own : FitFrom (length source) (block_from source (e ∷ es)) (e ∷ es) =
    (first_at_or_after source e es, h.1, h.2) in
    let last = last_within source (block_from source (e ∷ es)) (e ∷ es) some own in
    let after : last_end (e ∷ es) ≤ line_end source (line_of source (last_end (e ∷ es))) =
    line_end_after source (last_end (e ∷ es)) (line_of source (last_end (e ∷ es))) last.1 (omega arith) in
    fit_upto (length source) (block_to source (e ∷ es)) (block_from source (e ∷ es)) (e ∷ es) some own
    (omega (arith, after, to_line source (e ∷ es) some))
