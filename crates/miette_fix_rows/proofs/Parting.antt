-- Where the removed and the added lines of a block stand in its texts.
use Rattle.std.proofs.Common.{ℕ, ◌+◌, ◌-◌, ◌<◌, ◌≤◌, ◌≡◌, List, length, take, min, max, sym, subst}
use Rattle.std.proofs.Common.{ap, ap₂, ◌∙◌, arith}
use Rattle.std.specs.Prelude.{slice_range}
use Rattle.std.proofs.lemmas.List.{length-map, length-take, take-map, take-take}
use Rattle.miette_fix_rows.specs.declared.changes.Sizes.{Sizes}
use Rattle.miette_fix_rows.specs.rules.Blocks.{bytes_of, line_texts}
use Rattle.miette_fix_rows.specs.rules.Hunks.{Change, BlockDiff, change_at, common, common_after, block_diff}
use Rattle.miette_fix_rows.specs.steps.Parting.{AreSizes, IsSized, new_until, old_until, staying}
use Rattle.miette_fix_rows.specs.views.LineLists.{borrowed_lines}
use Rattle.miette_fix_rows.proofs.Commons.{common_within, common_within_other}
use Rattle.miette_fix_rows.proofs.Texts.{bytes_of-take, bytes_of_texts, texts_slice}
use denote.Ref.{Bor}

abbrev made : ℕ → ℕ → ℕ → List (List ℕ) → List (List ℕ) → Change
made from to place removed added =
    record { from = from; to = to; place = place; removed = removed; added = added }

-- the lines that stay at the fronts are no more than those before the ends
pub staying_old : (olds news : List (List ℕ)) → staying olds news ≤ old_until olds news
staying_old olds news =
    let n : ℕ = old_until olds news in
    let a : staying olds news ≤ length (take n olds) = common_within (take n olds) (take (new_until olds news) news) in
    let b : length (take n olds) ≡ min n (length olds) = length-take n olds in
    omega (arith, a, b)

pub staying_new : (olds news : List (List ℕ)) → staying olds news ≤ new_until olds news
staying_new olds news =
    let n : ℕ = new_until olds news in
    let a : staying olds news ≤ length (take n news) = common_within_other (take (old_until olds news) olds)
    (take n news) in
    let b : length (take n news) ≡ min n (length news) = length-take n news in
    omega (arith, a, b)

take_bytes : (i j : ℕ) (ls : List (List ℕ)) → i ≤ j → bytes_of (take i ls) ≤ bytes_of (take j ls)
take_bytes i j ls le = omega (arith, bytes_of-take i (take j ls), ap bytes_of (take-take i j ls le))

pub sized : (old new : List ℕ) (sizes : Sizes) → AreSizes (line_texts old) (line_texts new) sizes
    → IsSized old new sizes
sized old new sizes h =
    let olds : List (List ℕ) = line_texts old in
    let news : List (List ℕ) = line_texts new in
    let a : staying olds news ≤ old_until olds news = staying_old olds news in
    let b : staying olds news ≤ new_until olds news = staying_new olds news in
    record {
      front = h.removed_from;
      order = omega (arith, h.removed_from, h.removed_to, take_bytes (staying olds news) (old_until olds news) olds a);
      within = omega (arith, h.removed_to, bytes_of-take (old_until olds news) olds, bytes_of_texts old);
      removed = texts_slice old (staying olds news) (old_until olds news) sizes.removed_from sizes.removed_to a
          h.removed_from h.removed_to;
      added_order = omega (
        arith,
        h.added_from,
        h.added_to,
        take_bytes (staying olds news) (new_until olds news) news b,
      );
      added_within = omega (arith, h.added_to, bytes_of-take (new_until olds news) news, bytes_of_texts new);
      added = texts_slice new (staying olds news) (new_until olds news) sizes.added_from sizes.added_to b
          h.added_from h.added_to;
    }

-- bytes of the first of some lines
pub total_of : (ls : List (Bor (List ℕ))) (i n : ℕ) → n ≡ bytes_of (borrowed_lines (take i ls))
    → n ≡ bytes_of (take i (borrowed_lines ls))
total_of ls i n e = e ∙ ap bytes_of (sym (take-map (λ (l : Bor (List ℕ)). l.now) i ls))

pub total_fits : (ls : List (Bor (List ℕ))) (i n : ℕ) → bytes_of (borrowed_lines ls) < n
    → bytes_of (borrowed_lines (take i ls)) < n
total_fits ls i n h =
    let e : take i (borrowed_lines ls) ≡ borrowed_lines (take i ls) = take-map (λ (l : Bor (List ℕ)). l.now) i ls in
    omega (arith, h, bytes_of-take i (borrowed_lines ls), ap bytes_of e)

until_is : (ls : List (Bor (List ℕ))) (after : ℕ)
    → borrowed_lines (take (length ls - after) ls) ≡ take (length (borrowed_lines ls) - after) (borrowed_lines ls)
until_is ls after =
    sym (take-map (λ (l : Bor (List ℕ)). l.now) (length ls - after) ls)
    ∙ ap (λ n. take (n - after) (borrowed_lines ls)) (sym (length-map ls (λ l. l.now)))

-- what a sweep over two lists finds
pub sizes_are : (ls ms : List (Bor (List ℕ))) (sizes : Sizes) (after before : ℕ)
    → after ≡ common_after (borrowed_lines ls) (borrowed_lines ms)
    → before ≡ common (borrowed_lines (take (length ls - after) ls)) (borrowed_lines (take (length ms - after) ms))
    → sizes.removed_from ≡ bytes_of (borrowed_lines (take before ls))
    → sizes.removed_to ≡ bytes_of (borrowed_lines (take (length ls - after) ls))
    → sizes.added_from ≡ bytes_of (borrowed_lines (take before ms))
    → sizes.added_to ≡ bytes_of (borrowed_lines (take (length ms - after) ms))
    → AreSizes (borrowed_lines ls) (borrowed_lines ms) sizes
sizes_are ls ms sizes after before e f a b d g =
    let olds : List (List ℕ) = borrowed_lines ls in
    let news : List (List ℕ) = borrowed_lines ms in
    let at : before ≡ staying olds news =
    f ∙ ap₂ common (until_is ls after) (until_is ms after)
    ∙ ap (λ n. common (take (length olds - n) olds) (take (length news - n) news)) e in
    record {
      removed_from = total_of ls before sizes.removed_from a ∙ ap (λ n. bytes_of (take n olds)) at;
      removed_to = b ∙ ap bytes_of (until_is ls after) ∙ ap (λ n. bytes_of (take (length olds - n) olds)) e;
      added_from = total_of ms before sizes.added_from d ∙ ap (λ n. bytes_of (take n news)) at;
      added_to = g ∙ ap bytes_of (until_is ms after) ∙ ap (λ n. bytes_of (take (length news - n) news)) e;
    }

pub sized_by : (old new : List ℕ) (ls ms : List (Bor (List ℕ))) (sizes : Sizes) → borrowed_lines ls ≡ line_texts old
    → borrowed_lines ms ≡ line_texts new → AreSizes (borrowed_lines ls) (borrowed_lines ms) sizes
    → IsSized old new sizes
sized_by old new ls ms sizes e f h =
    sized old new sizes (subst (λ p. AreSizes p (line_texts new) sizes) e
    (subst (λ q. AreSizes (borrowed_lines ls) q sizes) f h))

-- what a block changes, by these sizes
pub change_is : (from first start place : ℕ) (old new removed : List ℕ) (sizes : Sizes) → IsSized old new sizes
    → start ≡ from + sizes.removed_from → place ≡ max first start
    → removed ≡ slice_range old sizes.removed_from sizes.removed_to
    → made start (start + length removed) place (line_texts removed)
    (line_texts (slice_range new sizes.added_from sizes.added_to))
    ≡ change_at from first (block_diff (line_texts old) (line_texts new))
change_is from first start place old new removed sizes h e f g =
    let p : BlockDiff = block_diff (line_texts old) (line_texts new) in
    let a : start ≡ from + bytes_of p.front = e ∙ ap (λ n. from + n) h.front in
    let t : line_texts removed ≡ p.removed = ap line_texts g ∙ h.removed in
    let b : start + length removed ≡ from + bytes_of p.front + bytes_of p.removed =
    omega (arith, a, bytes_of_texts removed, ap bytes_of t) in
    let d : place ≡ max first (from + bytes_of p.front) = f ∙ ap (max first) a in
    ap (λ n. made n (start + length removed) place (line_texts removed)
    (line_texts (slice_range new sizes.added_from sizes.added_to))) a
    ∙ ap (λ n. made (from + bytes_of p.front) n place (line_texts removed)
    (line_texts (slice_range new sizes.added_from sizes.added_to))) b
    ∙ ap (λ n. made (from + bytes_of p.front) (from + bytes_of p.front + bytes_of p.removed) n (line_texts removed)
    (line_texts (slice_range new sizes.added_from sizes.added_to))) d
    ∙ ap₂ (made (from + bytes_of p.front) (from + bytes_of p.front + bytes_of p.removed)
    (max first (from + bytes_of p.front))) t h.added
