-- What edits change comes one after the other.
use Rattle.std.proofs.Common.{ℕ, ◌<◌, ◌≤◌, ◌≡◌, List, [], ◌∷◌, ◌&&◌, length, arith}
use Rattle.std.specs.Prelude.{None}
use Rattle.std.proofs.Math.Nat.{max-le}
use Rattle.miette_lines.proofs.Cases.{by_cases}
use Rattle.miette_fixes.specs.rules.Applying.{by_offset, edits_error}
use Rattle.miette_fixes.specs.rules.Edits.{Replacement}
use Rattle.miette_fixes.specs.views.Ordered.{FitFrom}
use Rattle.miette_fixes.proofs.Overlaps.{fit_unrefused}
use Rattle.miette_fix_rows.specs.rules.Blocks.{block_from, block_to, blocks}
use Rattle.miette_fix_rows.specs.rules.Hunks.{Change, change_of, changes, changes_of, first_offset, has_no_lines}
use Rattle.miette_fix_rows.proofs.Chains.{Chain, block_order, block_within, chain, last_end}
use Rattle.miette_fix_rows.proofs.Sources.{At, IsPart, at_next, first_at, part_of}
use Rattle.miette_fix_drawing.specs.steps.Rising.{AreRising}

first_within : (n at : ℕ) (block : List Replacement) → 0 < length block → FitFrom n at block → first_offset block ≤ n
first_within n at [] some h = absurd (omega (arith, some))
first_within n at (edit ∷ edits) some h = omega (arith, h.1)

blocks_rising : (source : List ℕ) (before at : ℕ) (bs : List (List Replacement)) → Chain source before bs
    → At source at bs → at ≤ length source → AreRising (length source) at (changes_of source bs)
blocks_rising source before at [] h low within = within
blocks_rising source before at (block ∷ bs) h low within =
    let c : Change = change_of source block in
    let order : block_from source block ≤ block_to source block = block_order source before block h.0 h.1 in
    let p : IsPart source (block_from source block) (block_to source block) c = part_of source block h.0 order in
    let to : c.to ≤ length source = omega (arith, p.high, block_within source block h.0) in
    by_cases {C = AreRising (length source) at (changes_of source (block ∷ bs))}
    (has_no_lines c.removed && has_no_lines c.added)
    (λ t. rw t (blocks_rising source (last_end block) at bs h.3
    (at_next source before at block bs h (omega (arith, low, order))) within))
    (λ f. rw f (
      omega (arith, low, p.low),
      p.order,
      to,
      max-le (first_within (length source) before block h.0 h.1) (omega (arith, p.order, to)),
      blocks_rising source (last_end block) c.to bs h.3 (at_next source before c.to block bs h p.high) to,
    ))

-- of edits that can be applied
pub changes_rising : (source : List ℕ) (edits : List Replacement) → edits_error (length source) edits ≡ None
    → AreRising (length source) 0 (changes source edits)
changes_rising source edits h =
    blocks_rising source 0 0 (blocks source (by_offset edits))
    (chain source 0 (by_offset edits) (fit_unrefused (length source) edits h))
    (first_at source (blocks source (by_offset edits))) (omega arith)
