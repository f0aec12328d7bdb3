-- The removed and the unchanged lines are the source's.
use Rattle.std.proofs.Common.{ℕ, ◌+◌, ◌-◌, ◌<◌, ◌≤◌, ◌≡◌, true, false, List, [], ◌∷◌, ◌++◌, ◌&&◌}
use Rattle.std.proofs.Common.{length, take, drop, refl, sym, ap, ap₂, ◌∙◌, subst, arith}
use Rattle.std.specs.Prelude.{None, slice_range}
use Rattle.std.proofs.lemmas.List.{take-append-drop}
use Rattle.std.proofs.lemmas.List.{take-take}
use Rattle.miette_lines.proofs.Cases.{by_cases}
use Rattle.miette_lines.proofs.Parts.{part_length}
use Rattle.miette_fixes.specs.rules.Edits.{Replacement}
use Rattle.miette_fixes.specs.rules.Applying.{by_offset, edits_error}
use Rattle.miette_fixes.proofs.Overlaps.{fit_unrefused}
use Rattle.miette_fix_rows.specs.rules.Blocks.{block_from, block_to, blocks, bytes_of, line_texts, new_lines, old_lines}
use Rattle.miette_fix_rows.specs.rules.Hunks.{Change, change_of, changes_of, diff, diff_from}
use Rattle.miette_fix_rows.specs.rules.Hunks.{has_no_lines, lines_before, onto_changes}
use Rattle.miette_fix_rows.proofs.Chains.{Chain, block_order, block_within, chain, from_ended, last_end, next_after}
use Rattle.miette_fix_rows.proofs.Chains.{to_ended}
use Rattle.miette_fix_rows.proofs.Parting.{staying_old}
use Rattle.miette_fix_rows.specs.steps.Parting.{old_until, staying}
use Rattle.miette_fix_rows.proofs.Seams.{Ended, some_ended, texts_seam}
use Rattle.miette_fix_rows.proofs.PartsOfParts.{ended_part, slice_slice}
use Rattle.miette_fix_rows.proofs.Told.{told_more}
use Rattle.miette_fix_rows.proofs.Texts.{bytes_of-append, bytes_of-take, bytes_of_texts, texts_slice}

-- ---- the removed lines of a block

-- where they stand
pub record IsPart (source : List ℕ) (from to : ℕ) (change : Change) : Type 0 where
  pub low : from ≤ change.from
  pub order : change.from ≤ change.to
  pub high : change.to ≤ to
  pub start : Ended source change.from
  pub ending : Ended source change.to
  pub removed : change.removed ≡ line_texts (slice_range source change.from change.to)

pub until_bytes : (olds : List (List ℕ)) (b m : ℕ) → b ≤ m
    → bytes_of (take b olds) + bytes_of (drop b (take m olds)) ≡ bytes_of (take m olds)
until_bytes olds b m le =
    let e : bytes_of (take b (take m olds) ++ drop b (take m olds)) ≡ bytes_of (take m olds) =
    ap bytes_of (take-append-drop b (take m olds)) in
    omega (arith, e, bytes_of-append (take b (take m olds)) (drop b (take m olds)), ap bytes_of (take-take b m olds le))

pub part_of : (source : List ℕ) (block : List Replacement) → 0 < length block
    → block_from source block ≤ block_to source block
    → IsPart source (block_from source block) (block_to source block) (change_of source block)
part_of source block some order =
    let x : ℕ = block_from source block in
    let y : ℕ = block_to source block in
    let old : List ℕ = slice_range source x y in
    let olds : List (List ℕ) = old_lines source block in
    let news : List (List ℕ) = new_lines source block in
    let b : ℕ = staying olds news in
    let m : ℕ = old_until olds news in
    let within : y ≤ length source = block_within source block some in
    let long : length old ≡ y - x = part_length source x y within in
    let le : b ≤ m = staying_old olds news in
    let a : ℕ = bytes_of (take b olds) in
    let e : ℕ = bytes_of (take m olds) in
    let sum : a + bytes_of (drop b (take m olds)) ≡ e = until_bytes olds b m le in
    let all : e ≤ length old = omega (arith, bytes_of-take m olds, bytes_of_texts old) in
    let last : x + a + bytes_of (drop b (take m olds)) ≡ x + e = omega (arith, sum) in
    let fit : x + e ≤ y = omega (arith, all, long, order) in
    let fit2 : x + a ≤ y = omega (arith, fit, sum) in
    let ex : Ended source x = from_ended source block some in
    let ey : Ended source y = to_ended source block some in
    let texts : line_texts (slice_range old a e) ≡ drop b (take m olds) = texts_slice old b m a e le refl refl in
    let same : slice_range old a e ≡ slice_range source (x + a) (x + e) =
    slice_slice source x y a e (omega (arith, sum)) fit in
    record {
      low = omega arith;
      order = omega arith;
      high = omega (arith, last, fit);
      start = ended_part source x y a (some_ended old b) fit2 within ex ey;
      ending = subst (λ n. Ended source n) (sym last) (ended_part source x y e (some_ended old m) fit within ex ey);
      removed = sym texts ∙ ap line_texts (same ∙ ap (λ n. slice_range source (x + a) n) (sym last));
    }

-- ---- all blocks

abbrev pub At : List ℕ → ℕ → List (List Replacement) → Type 0
At source at [] = Unit {0}
At source at (block ∷ blocks) = at ≤ block_from source block

pub at_next : (source : List ℕ) (before at : ℕ) (block : List Replacement) (bs : List (List Replacement))
    → Chain source before (block ∷ bs) → at ≤ block_to source block → At source at bs
at_next source before at block [] h le = tt
at_next source before at block (next ∷ bs) h le = omega (arith, le, next_after source before block next bs h)

pub without : (source : List ℕ) (at : ℕ) (change : Change) (list : List Change)
    → (has_no_lines change.removed && has_no_lines change.added) ≡ true
    → diff_from source at (onto_changes change list) ≡ diff_from source at list
without source at change list t = rw t refl

pub with_one : (source : List ℕ) (at : ℕ) (change : Change) (list : List Change)
    → (has_no_lines change.removed && has_no_lines change.added) ≡ false
    → diff_from source at (onto_changes change list) ≡ diff_from source at (change ∷ list)
with_one source at change list f = rw f refl

source_from : (source : List ℕ) (before at : ℕ) (bs : List (List Replacement)) → Chain source before bs
    → At source at bs → lines_before (diff_from source at (changes_of source bs)) ≡ line_texts (drop at source)
source_from source before at [] h low = refl
source_from source before at (block ∷ bs) h low =
    let c : Change = change_of source block in
    let order : block_from source block ≤ block_to source block = block_order source before block h.0 h.1 in
    let p : IsPart source (block_from source block) (block_to source block) c = part_of source block h.0 order in
    by_cases {C = lines_before (diff_from source at (onto_changes c (changes_of source bs)))
    ≡ line_texts (drop at source)} (has_no_lines c.removed && has_no_lines c.added)
    (λ t. ap lines_before (without source at c (changes_of source bs) t)
    ∙ source_from source (last_end block) at bs h.3
    (at_next source before at block bs h (omega (arith, low, order))))
    (λ f. ap lines_before (with_one source at c (changes_of source bs) f)
    ∙ told_more (λ change. change.removed) (line_texts (slice_range source at c.from)) c
    (diff_from source c.to (changes_of source bs))
    ∙ ap₂ (λ ls ms. line_texts (slice_range source at c.from) ++ (ls ++ ms)) p.removed
    (source_from source (last_end block) c.to bs h.3 (at_next source before c.to block bs h p.high))
    ∙ ap (λ ls. line_texts (slice_range source at c.from) ++ ls)
    (sym (texts_seam c.from c.to source p.order p.ending))
    ∙ sym (texts_seam at c.from source (omega (arith, low, p.low)) p.start))

pub first_at : (source : List ℕ) (bs : List (List Replacement)) → At source 0 bs
first_at source [] = tt
first_at source (block ∷ bs) = omega arith

pub source_lines : (source : List ℕ) (edits : List Replacement) → edits_error (length source) edits ≡ None
    → lines_before (diff source edits) ≡ line_texts source
source_lines source edits h =
    source_from source 0 0 (blocks source (by_offset edits))
    (chain source 0 (by_offset edits) (fit_unrefused (length source) edits h))
    (first_at source (blocks source (by_offset edits)))
