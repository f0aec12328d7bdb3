-- The added and the unchanged lines are the applied text's.
use Rattle.std.proofs.Common.{ℕ, ◌+◌, ◌-◌, ◌≤◌, ◌≡◌, List, [], ◌∷◌, ◌++◌, ◌&&◌}
use Rattle.std.proofs.Common.{length, take, drop, refl, sym, ap, ap₂, ◌∙◌, subst, inl, inr, arith, append_assoc}
use Rattle.std.specs.Prelude.{None, slice_range}
use Rattle.std.proofs.lemmas.Bool.{cases_lt}
use Rattle.std.proofs.lemmas.List.{drop-drop, take-take}
use Rattle.miette_lines.proofs.Cases.{by_cases}
use Rattle.miette_lines.proofs.Parts.{part_length}
use Rattle.miette_fixes.specs.rules.Edits.{Replacement}
use Rattle.miette_fixes.specs.rules.Applying.{applied, by_offset, edits_error, text_from}
use Rattle.miette_fixes.proofs.Overlaps.{fit_unrefused}
use Rattle.miette_fix_rows.specs.rules.Blocks.{block_from, block_to, blocks, bytes_of, line_texts, new_lines, old_lines}
use Rattle.miette_fix_rows.specs.rules.Blocks.{edited_between}
use Rattle.miette_fix_rows.specs.rules.Hunks.{Change, change_of, changes_of, diff, diff_from, has_no_lines, lines_after}
use Rattle.miette_fix_rows.specs.rules.Hunks.{onto_changes}
use Rattle.miette_fix_rows.specs.steps.Parting.{new_until, old_until, staying}
use Rattle.miette_fix_rows.proofs.Applied.{Far, ending_same, front_same, text_over, text_split, three}
use Rattle.miette_fix_rows.proofs.AppliedBlocks.{far_block, far_more, far_next, flat, flat_blocks, still_text}
use Rattle.miette_fix_rows.proofs.AppliedSeams.{EndsBefore, ends_slice, last_is_end, meet_after, meet_none, meet_part}
use Rattle.miette_fix_rows.proofs.AppliedSeams.{new_ending, seam_head}
use Rattle.miette_fix_rows.proofs.Chains.{Chain, block_fits, block_order, block_within, chain, from_ended, last_end}
use Rattle.miette_fix_rows.proofs.Chains.{to_ended}
use Rattle.miette_fix_rows.proofs.Parting.{staying_new, staying_old}
use Rattle.miette_fix_rows.proofs.PartsOfParts.{drop_front, slice_join}
use Rattle.miette_fix_rows.proofs.Seams.{Meet, texts_meet}
use Rattle.miette_fix_rows.proofs.Sources.{At, IsPart, at_next, first_at, part_of, until_bytes, with_one, without}
use Rattle.miette_fix_rows.proofs.Told.{told_more}
use Rattle.miette_fix_rows.proofs.Texts.{bytes_of-take, bytes_of_texts, texts_drop, texts_take}

six : (xs ps ms qs rs : List (List ℕ)) → xs ++ ((ps ++ (ms ++ qs)) ++ rs) ≡ (xs ++ ps) ++ (ms ++ (qs ++ rs))
six xs ps ms qs rs = simp append_assoc

-- a block's new text and what stands after it meet where a line ends
new_meets : (source : List ℕ) (before : ℕ) (block : List Replacement) (bs : List (List Replacement))
    → Chain source before (block ∷ bs)
    → Meet (edited_between source (block_from source block) (block_to source block) block)
    (text_from source (block_to source block) (flat bs))
new_meets source before block bs h =
    let y : ℕ = block_to source block in
    let rest : List ℕ = text_from source y (flat bs) in
    let ending = new_ending source y (block_from source block) block h.0 (block_fits source before block h.0 h.1) in
    let within : y ≤ length source = block_within source block h.0 in
    elim (cases_lt (last_end block) y) [
      | inl lt ↦ subst (λ xs. Meet xs rest) (sym ending.1)
          (meet_after ending.0 (slice_range source (last_end block) y) rest
          (omega (arith, part_length source (last_end block) y within, lt))
          (meet_part source rest (last_end block) y (omega (arith, lt)) within
          (seam_head source (last_end block) y bs h.3 (at_next source before y block bs h (omega arith)) within
          (to_ended source block h.0))))
      | inr ge ↦ subst (λ text. Meet (edited_between source (block_from source block) y block) text)
          (sym (last_is_end source before block bs h ge))
          (meet_none (edited_between source (block_from source block) y block))
    ]

block_lines : (source : List ℕ) (before at : ℕ) (block : List Replacement) (bs : List (List Replacement))
    → Chain source before (block ∷ bs) → at ≤ block_from source block
    → line_texts (text_from source at (flat (block ∷ bs)))
    ≡ line_texts (slice_range source at (change_of source block).from)
    ++ ((change_of source block).added ++ line_texts (text_from source (change_of source block).to (flat bs)))
block_lines source before at block bs h low =
    let c : Change = change_of source block in
    let rest : List Replacement = flat bs in
    let x : ℕ = block_from source block in
    let y : ℕ = block_to source block in
    let old : List ℕ = slice_range source x y in
    let new : List ℕ = edited_between source x y block in
    let olds : List (List ℕ) = old_lines source block in
    let news : List (List ℕ) = new_lines source block in
    let b : ℕ = staying olds news in
    let m : ℕ = old_until olds news in
    let a : ℕ = bytes_of (take b olds) in
    let e : ℕ = bytes_of (take m olds) in
    let order : x ≤ y = block_order source before block h.0 h.1 in
    let within : y ≤ length source = block_within source block h.0 in
    let long : length old ≡ y - x = part_length source x y within in
    let sum : a + bytes_of (drop b (take m olds)) ≡ e = until_bytes olds b m (staying_old olds news) in
    let all : e ≤ length old = omega (arith, bytes_of-take m olds, bytes_of_texts old) in
    let to : c.to ≡ x + e = omega (arith, sum) in
    let far : Far y rest = far_next source before y block bs h (omega arith) in
    let after : List ℕ = text_from source y rest in
    let e1 = text_split source at x (block ++ rest) low
    (far_more x block rest h.0 (far_block source x block (omega arith))) in
    let e2 : text_from source x (block ++ rest) ≡ new ++ after =
    text_over source y x block rest (block_fits source before block h.0 h.1) far in
    let seam : EndsBefore source x (new ++ after) =
    subst (λ text. EndsBefore source x text) e2
    (seam_head source before x (block ∷ bs) h (omega arith) (omega (arith, order, within))
    (from_ended source block h.0)) in
    let cut : line_texts (slice_range source at x ++ (new ++ after))
    ≡ line_texts (slice_range source at x) ++ line_texts (new ++ after) =
    texts_meet (slice_range source at x) (new ++ after)
    (meet_part source (new ++ after) at x low (omega (arith, order, within)) seam) in
    let cut2 : line_texts (new ++ after) ≡ news ++ line_texts after =
    texts_meet new after (new_meets source before block bs h) in
    let parts : news ≡ take b olds ++ (c.added ++ drop m olds) =
    three news b (new_until olds news) (staying_new olds news)
    ∙ ap₂ (λ ps qs. ps ++ (c.added ++ qs)) (sym (front_same olds news)) (sym (ending_same olds news)) in
    let na : x + a - x ≡ a = omega arith in
    let e4 : take a old ≡ slice_range source x (x + a) =
    take-take a (y - x) (drop x source) (omega (arith, all, long, sum)) ∙ ap (λ n. take n (drop x source)) (sym na) in
    let ne : y - x - e ≡ y - (x + e) = omega arith in
    let e5 : drop e old ≡ slice_range source (x + e) y =
    drop_front (drop x source) e (y - x) (omega (arith, all, long))
    ∙ ap₂ take ne (drop-drop e x source) in
    let front : take b olds ≡ line_texts (slice_range source x (x + a)) = sym (texts_take old b) ∙ ap line_texts e4 in
    let back : drop m olds ≡ line_texts (slice_range source (x + e) y) = sym (texts_drop old m) ∙ ap line_texts e5 in
    let e6 : line_texts (slice_range source at x) ++ line_texts (slice_range source x (x + a))
    ≡ line_texts (slice_range source at (x + a)) =
    sym (ap line_texts (slice_join source at x (x + a) low (omega arith))
    ∙ texts_meet (slice_range source at x) (slice_range source x (x + a))
    (meet_part source (slice_range source x (x + a)) at x low (omega (arith, order, within))
    (ends_slice source x (x + a) (omega (arith, all, long, sum, order, within)) (from_ended source block h.0)))) in
    let ends : EndsBefore source y after =
    seam_head source (last_end block) y bs h.3 (at_next source before y block bs h (omega arith)) within
    (to_ended source block h.0) in
    let e7 : line_texts (slice_range source (x + e) y) ++ line_texts after
    ≡ line_texts (text_from source c.to rest) =
    sym (texts_meet (slice_range source (x + e) y) after
    (meet_part source after (x + e) y (omega (arith, all, long, order)) within ends))
    ∙ ap line_texts (sym (text_split source (x + e) y rest (omega (arith, all, long, order)) far)
    ∙ ap (λ n. text_from source n rest) (sym to)) in
    ap line_texts (e1 ∙ ap (λ xs. slice_range source at x ++ xs) e2) ∙ cut
    ∙ ap (λ ls. line_texts (slice_range source at x) ++ ls) (cut2 ∙ ap (λ ls. ls ++ line_texts after) (parts
    ∙ ap₂ (λ ps qs. ps ++ (c.added ++ qs)) front back))
    ∙ six (line_texts (slice_range source at x)) (line_texts (slice_range source x (x + a))) c.added
    (line_texts (slice_range source (x + e) y)) (line_texts after)
    ∙ ap₂ (λ ls ms. ls ++ (c.added ++ ms)) e6 e7

lines_from_block : (source : List ℕ) (before at : ℕ) (bs : List (List Replacement)) → Chain source before bs
    → At source at bs
    → lines_after (diff_from source at (changes_of source bs)) ≡ line_texts (text_from source at (flat bs))
lines_from_block source before at [] h low = refl
lines_from_block source before at (block ∷ bs) h low =
    let c : Change = change_of source block in
    let order : block_from source block ≤ block_to source block = block_order source before block h.0 h.1 in
    let p : IsPart source (block_from source block) (block_to source block) c = part_of source block h.0 order in
    let lines : List (List ℕ) = line_texts (slice_range source at c.from) in
    by_cases {C = lines_after (diff_from source at (onto_changes c (changes_of source bs)))
    ≡ line_texts (text_from source at (flat (block ∷ bs)))} (has_no_lines c.removed && has_no_lines c.added)
    (λ t. ap lines_after (without source at c (changes_of source bs) t)
    ∙ lines_from_block source (last_end block) at bs h.3
    (at_next source before at block bs h (omega (arith, low, order)))
    ∙ ap line_texts (sym (still_text source before at block bs h low t)))
    (λ f. ap lines_after (with_one source at c (changes_of source bs) f)
    ∙ told_more (λ change. change.added) lines c (diff_from source c.to (changes_of source bs))
    ∙ ap (λ ls. lines ++ (c.added ++ ls)) (lines_from_block source (last_end block) c.to bs h.3
    (at_next source before c.to block bs h p.high))
    ∙ sym (block_lines source before at block bs h low))

pub applied_lines : (source : List ℕ) (edits : List Replacement) → edits_error (length source) edits ≡ None
    → lines_after (diff source edits) ≡ line_texts (applied source edits)
applied_lines source edits h =
    lines_from_block source 0 0 (blocks source (by_offset edits))
    (chain source 0 (by_offset edits) (fit_unrefused (length source) edits h))
    (first_at source (blocks source (by_offset edits)))
    ∙ ap (λ es. line_texts (text_from source 0 es)) (flat_blocks source (by_offset edits))
