-- The applied text, block by block.
use Rattle.std.proofs.Common.{ℕ, ◌+◌, ◌-◌, ◌<◌, ◌≤◌, ◌≡◌, true, leb, List, [], ◌∷◌, ◌++◌, ◌&&◌}
use Rattle.std.proofs.Common.{length, take, drop, refl, sym, ap, ap₂, ◌∙◌, arith, append_assoc}
use Rattle.std.specs.Prelude.{slice_range}
use Rattle.std.specs.List.{flat_map}
use Rattle.std.proofs.lemmas.Bool.{and_parts}
use Rattle.std.proofs.lemmas.List.{drop-drop, take-take}
use Rattle.miette_lines.proofs.Cases.{by_cases}
use Rattle.miette_lines.proofs.Parts.{part_length}
use Rattle.miette_fixes.specs.rules.Edits.{Replacement, end_of}
use Rattle.miette_fixes.specs.rules.Applying.{text_from}
use Rattle.miette_fix_rows.specs.laws.Whole.{all_bytes}
use Rattle.miette_fix_rows.specs.rules.Blocks.{block_from, block_to, blocks, bytes_of, new_lines, old_lines}
use Rattle.miette_fix_rows.specs.rules.Blocks.{onto_blocks, edited_between}
use Rattle.miette_fix_rows.specs.rules.Hunks.{Change, change_of, has_no_lines}
use Rattle.miette_fix_rows.specs.steps.Parting.{old_until, staying}
use Rattle.miette_fix_rows.proofs.Applied.{Far, new_text, text_over, text_split}
use Rattle.miette_fix_rows.proofs.Chains.{Chain, block_fits, block_order, block_within, first_at_or_after}
use Rattle.miette_fix_rows.proofs.Chains.{next_after}
use Rattle.miette_fix_rows.proofs.Parting.{staying_old}
use Rattle.miette_fix_rows.proofs.PartsOfParts.{drop_front, slice_join}
use Rattle.miette_fix_rows.proofs.Sources.{IsPart, part_of, until_bytes}
use Rattle.miette_fix_rows.proofs.Told.{nil_of}
use Rattle.miette_fix_rows.proofs.Texts.{bytes_of-take, bytes_of_texts}

-- the edits of blocks, one after the other
abbrev pub flat : List (List Replacement) → List Replacement
flat bs = flat_map (λ block. block) bs

flat_onto : (source : List ℕ) (e : Replacement) (bs : List (List Replacement))
    → flat (onto_blocks source e bs) ≡ e ∷ flat bs
flat_onto source e [] = refl
flat_onto source e (block ∷ bs) =
    by_cases {C = flat (onto_blocks source e (block ∷ bs)) ≡ e ∷ flat (block ∷ bs)}
    (leb (block_from source block) (end_of e)) (λ t. rw t refl) (λ f. rw f refl)

pub flat_blocks : (source : List ℕ) (es : List Replacement) → flat (blocks source es) ≡ es
flat_blocks source [] = refl
flat_blocks source (e ∷ es) =
    flat_onto source e (blocks source es) ∙ ap (λ xs. e ∷ xs) (flat_blocks source es)

pub far_more : (at : ℕ) (block rest : List Replacement) → 0 < length block → Far at block → Far at (block ++ rest)
far_more at [] rest some h = absurd (omega (arith, some))
far_more at (e ∷ es) rest some h = h

pub far_block : (source : List ℕ) (at : ℕ) (block : List Replacement) → at ≤ block_from source block → Far at block
far_block source at [] h = tt
far_block source at (e ∷ es) h = omega (arith, h, first_at_or_after source e es)

pub far_next : (source : List ℕ) (before at : ℕ) (block : List Replacement) (bs : List (List Replacement))
    → Chain source before (block ∷ bs) → at ≤ block_to source block → Far at (flat bs)
far_next source before at block [] h le = tt
far_next source before at block (next ∷ bs) h le =
    far_more at next (flat bs) h.3.0
    (far_block source at next (omega (arith, le, next_after source before block next bs h)))

five : (xs ps ms qs rs : List ℕ) → xs ++ ((ps ++ (ms ++ qs)) ++ rs) ≡ (xs ++ ps) ++ (ms ++ (qs ++ rs))
five xs ps ms qs rs = simp append_assoc

block_text : (source : List ℕ) (before at : ℕ) (block : List Replacement) (bs : List (List Replacement))
    → Chain source before (block ∷ bs) → at ≤ block_from source block
    → text_from source at (flat (block ∷ bs))
    ≡ slice_range source at (change_of source block).from
    ++ (all_bytes (change_of source block).added ++ text_from source (change_of source block).to (flat bs))
block_text source before at block bs h low =
    let c : Change = change_of source block in
    let rest : List Replacement = flat bs in
    let x : ℕ = block_from source block in
    let y : ℕ = block_to source block in
    let old : List ℕ = slice_range source x y in
    let new : List ℕ = edited_between source x y block in
    let olds : List (List ℕ) = old_lines source block in
    let news : List (List ℕ) = new_lines source block in
    let b : ℕ = staying olds news in
    let m : ℕ = old_until olds news in
    let a : ℕ = bytes_of (take b olds) in
    let e : ℕ = bytes_of (take m olds) in
    let order : x ≤ y = block_order source before block h.0 h.1 in
    let within : y ≤ length source = block_within source block h.0 in
    let long : length old ≡ y - x = part_length source x y within in
    let sum : a + bytes_of (drop b (take m olds)) ≡ e = until_bytes olds b m (staying_old olds news) in
    let all : e ≤ length old = omega (arith, bytes_of-take m olds, bytes_of_texts old) in
    let to : c.to ≡ x + e = omega (arith, sum) in
    let far : Far y rest = far_next source before y block bs h (omega arith) in
    let e1 = text_split source at x (block ++ rest) low
    (far_more x block rest h.0 (far_block source x block (omega arith))) in
    let e2 = text_over source y x block rest (block_fits source before block h.0 h.1) far in
    let na : x + a - x ≡ a = omega arith in
    let e4 : take a old ≡ slice_range source x (x + a) =
    take-take a (y - x) (drop x source) (omega (arith, all, long, sum)) ∙ ap (λ n. take n (drop x source)) (sym na) in
    let ne : y - x - e ≡ y - (x + e) = omega arith in
    let e5 : drop e old ≡ slice_range source (x + e) y =
    drop_front (drop x source) e (y - x) (omega (arith, all, long))
    ∙ ap₂ take ne (drop-drop e x source) in
    let e6 : slice_range source at x ++ slice_range source x (x + a) ≡ slice_range source at (x + a) =
    sym (slice_join source at x (x + a) low (omega arith)) in
    let e7 : slice_range source (x + e) y ++ text_from source y rest ≡ text_from source c.to rest =
    sym (text_split source (x + e) y rest (omega (arith, all, long, order)) far)
    ∙ ap (λ n. text_from source n rest) (sym to) in
    e1 ∙ ap (λ xs. slice_range source at x ++ xs) (e2 ∙ ap (λ xs. xs ++ text_from source y rest)
    (new_text old new ∙ ap₂ (λ ps qs. ps ++ (all_bytes c.added ++ qs)) e4 e5))
    ∙ five (slice_range source at x) (slice_range source x (x + a)) (all_bytes c.added)
    (slice_range source (x + e) y) (text_from source y rest)
    ∙ ap₂ (λ xs ys. xs ++ (all_bytes c.added ++ ys)) e6 e7

-- a block that changes nothing
pub still_text : (source : List ℕ) (before at : ℕ) (block : List Replacement) (bs : List (List Replacement))
    → Chain source before (block ∷ bs) → at ≤ block_from source block
    → (has_no_lines (change_of source block).removed && has_no_lines (change_of source block).added) ≡ true
    → text_from source at (flat (block ∷ bs)) ≡ text_from source at (flat bs)
still_text source before at block bs h low t =
    let c : Change = change_of source block in
    let order : block_from source block ≤ block_to source block = block_order source before block h.0 h.1 in
    let p : IsPart source (block_from source block) (block_to source block) c = part_of source block h.0 order in
    let parts : (has_no_lines c.removed ≡ true) × (has_no_lines c.added ≡ true)
    = and_parts (has_no_lines c.removed) (has_no_lines c.added) t in
    let none : bytes_of c.removed ≡ 0 = ap bytes_of (nil_of c.removed parts.0) in
    let to : c.to ≡ c.from = omega (arith, none) in
    let far : Far c.from (flat bs) = far_next source before c.from block bs h (omega (arith, p.order, p.high)) in
    block_text source before at block bs h low
    ∙ ap (λ ls. slice_range source at c.from ++ (all_bytes ls ++ text_from source c.to (flat bs)))
    (nil_of c.added parts.1)
    ∙ ap (λ n. slice_range source at c.from ++ text_from source n (flat bs)) to
    ∙ sym (text_split source at c.from (flat bs) (omega (arith, low, p.low)) far)
