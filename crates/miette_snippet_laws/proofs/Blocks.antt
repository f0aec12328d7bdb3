-- Whole lines that follow each other, joined by where they begin, make the maximal runs.
use Rattle.std.proofs.Common.{ℕ, ◌+◌, ◌-◌, ◌<◌, ◌≤◌, ◌≡◌, min, max, Bool, false, leb, List, [], ◌∷◌, length, map, refl}
use Rattle.std.proofs.Common.{sym, ap, ap₂, ◌∙◌, inl, inr, ◌&&◌, ◌||◌, arith}
use Rattle.std.specs.Prelude.{if◌then◌else◌}
use Rattle.std.proofs.lemmas.Bool.{le-leb, lt-leb, leb-true, leb-false, cases_lt}
use Rattle.std.proofs.lemmas.List.Elements.{filter_agree}
use Rattle.std.specs.List.{range_with_len, filter, list_any, AllByRecursion}
use Rattle.miette_lines.specs.rules.Lines.{lines_of, line_start, line_end}
use Rattle.miette_protocol.specs.rules.Reading.{Span}
use Rattle.miette_labels.specs.rules.Groups.{joined_span, put_span, by_begin, merged_spans_from, merged_data_spans}
use Rattle.miette_snippet_rules.specs.rules.Numbers.{ranges}
use Rattle.miette_labels.specs.rules.Contexts.{end_of_span}
use Rattle.miette_lines.proofs.Ranges.{filter-none}
use Rattle.miette_lines.proofs.Cases.{by_cases}
use Rattle.miette_lines.proofs.Places.{line_end_mono, line_start_mono, line_start_next}
use Rattle.miette_lines.proofs.Cuts.{start_strict}
use Rattle.miette_snippet_laws.proofs.ShownRuns.{within, or_assoc, span_run}
use Rattle.miette_labels.proofs.SortedLabels.{Rises, put, rises_lower, sorted, sorted_any, sorted_each, sorted_rises}

-- the numbers of the first and the last of some lines; the last need not be there
pub record Block : Type 0 where
  pub low : ℕ
  pub high : ℕ

-- the place of their bytes
abbrev pub span_of : List ℕ → Block → Span
span_of bytes b = record {
  offset = line_start bytes b.low;
  len = line_end bytes b.high - line_start bytes b.low;
}

pub record IsBlock (all : ℕ) (b : Block) : Type 0 where
  pub order : b.low ≤ b.high
  pub there : b.low < all

abbrev pub AreBlocks : ℕ → List Block → Type 0
AreBlocks all bs = AllByRecursion (IsBlock all) bs

-- ---- where they begin and end

starts_same : (bytes : List ℕ) (i k : ℕ) → i < length (lines_of bytes) → k < length (lines_of bytes)
    → leb (line_start bytes i) (line_start bytes k) ≡ leb i k
starts_same bytes i k li lk =
    by_cases {C = leb (line_start bytes i) (line_start bytes k) ≡ leb i k} (leb i k)
    (λ t. rw t (le-leb _ _ (line_start_mono bytes i k (leb-true i k t))))
    (λ f. rw f (lt-leb _ _ (start_strict bytes k i (leb-false i k f) lk)))

pub block_end : (bytes : List ℕ) (b : Block) → IsBlock (length (lines_of bytes)) b → end_of_span (span_of bytes b)
    ≡ line_end bytes b.high
block_end bytes b h =
    omega (arith, line_start_mono bytes b.low (b.high + 1) (omega (arith, h.order)), line_start_next bytes b.high)

-- lines begin at or before the end of others where none is left out between them
touches_same : (bytes : List ℕ) (a b : Block) → IsBlock (length (lines_of bytes)) a
    → IsBlock (length (lines_of bytes)) b →
    leb (span_of bytes b).offset (end_of_span (span_of bytes a)) ≡ leb b.low (a.high + 1)
touches_same bytes a b ha hb =
    ap (leb (line_start bytes b.low)) (block_end bytes a ha)
    ∙ by_cases {C = leb (line_start bytes b.low) (line_end bytes a.high) ≡ leb b.low (a.high + 1)}
    (leb b.low (a.high + 1))
    (λ t. rw t (le-leb _ _ (omega (
      arith,
      line_start_next bytes a.high,
      line_start_mono bytes b.low (a.high + 1) (leb-true b.low (a.high + 1) t),
    ))))
    (λ f. let gap : a.high + 1 < b.low = leb-false b.low (a.high + 1) f in
    rw f (lt-leb _ _ (omega (
      arith,
      line_start_next bytes a.high,
      start_strict bytes (a.high + 1) b.low gap (omega (arith, gap, hb.there)),
    ))))

-- ---- their order

-- blocks by where they begin
abbrev pub blocks_by_begin : List Block → List Block
blocks_by_begin bs = sorted (λ b. b.low) bs

pub ordered_there : (all : ℕ) (bs : List Block) → AreBlocks all bs → AreBlocks all (blocks_by_begin bs)
ordered_there all bs h = sorted_each (λ b. b.low) (IsBlock all) bs h

put_same : (bytes : List ℕ) (b : Block) (bs : List Block) → IsBlock (length (lines_of bytes)) b
    → AreBlocks (length (lines_of bytes)) bs →
    put_span (span_of bytes b) (map (span_of bytes) bs) ≡ map (span_of bytes) (put (λ b. b.low) b bs)
put_same bytes b [] own h = refl
put_same bytes b (next ∷ bs) own h =
    let same : leb (line_start bytes b.low) (line_start bytes next.low) ≡ leb b.low next.low =
    starts_same bytes b.low next.low own.there h.0.there in
    by_cases {C = put_span (span_of bytes b) (map (span_of bytes) (next ∷ bs))
    ≡ map (span_of bytes) (put (λ b. b.low) b (next ∷ bs))} (leb b.low next.low)
    (λ t. rw (same, t) refl) (λ f. rw (same, f) (ap (λ r. span_of bytes next ∷ r) (put_same bytes b bs own h.1)))

pub order_same : (bytes : List ℕ) (bs : List Block) → AreBlocks (length (lines_of bytes)) bs
    → by_begin (map (span_of bytes) bs) ≡ map (span_of bytes) (blocks_by_begin bs)
order_same bytes [] h = refl
order_same bytes (b ∷ bs) h =
    ap (put_span (span_of bytes b)) (order_same bytes bs h.1)
    ∙ put_same bytes b (blocks_by_begin bs) h.0 (ordered_there (length (lines_of bytes)) bs h.1)

-- each begins where the one before it does, or later
abbrev pub AreAscending : ℕ → List Block → Type 0
AreAscending from bs = Rises (λ b. b.low) from bs

-- ---- joined

abbrev pub joined_block : Block → Block → Block
joined_block a b = record { low = a.low; high = max a.high b.high }

abbrev pub blocks_from : Block → List Block → List Block
blocks_from before [] = before ∷ []
blocks_from before (b ∷ bs) = if leb b.low (before.high + 1) then blocks_from (joined_block before b) bs else before
    ∷ blocks_from b bs

abbrev pub joined_blocks : List Block → List Block
joined_blocks [] = []
joined_blocks (b ∷ bs) = blocks_from b bs

join_there : (all : ℕ) (a b : Block) → IsBlock all a → IsBlock all (joined_block a b)
join_there all a b h = record { order = omega (arith, h.order); there = h.there }

pub from_there : (all : ℕ) (before : Block) (bs : List Block) → IsBlock all before → AreBlocks all bs
    → AreBlocks all (blocks_from before bs)
from_there all before [] own h = (own, tt)
from_there all before (b ∷ bs) own h =
    by_cases {C = AreBlocks all (blocks_from before (b ∷ bs))} (leb b.low (before.high + 1))
    (λ t. rw t (from_there all (joined_block before b) bs (join_there all before b own) h.1))
    (λ f. rw f (own, from_there all b bs h.0 h.1))

pub joined_there : (all : ℕ) (bs : List Block) → AreBlocks all bs → AreBlocks all (joined_blocks bs)
joined_there all [] h = tt
joined_there all (b ∷ bs) h = from_there all b bs h.0 h.1

greater_end : (bytes : List ℕ) (i k : ℕ) → max (line_end bytes i)
    (line_end bytes k) ≡ line_end bytes (max i k)
greater_end bytes i k =
    elim (cases_lt i k) [
      | inl lt ↦
          (let e : max i k ≡ k = omega (arith, lt) in
          rw e (omega (arith, line_end_mono bytes i k (omega (arith, lt)))))
      | inr ge ↦ (let e : max i k ≡ i = omega (arith, ge) in rw e (omega (arith, line_end_mono bytes k i ge)))
    ]

pub join_same : (bytes : List ℕ) (a b : Block) → IsBlock (length (lines_of bytes)) a
    → IsBlock (length (lines_of bytes)) b →
    joined_span (span_of bytes a) (span_of bytes b) ≡ span_of bytes (joined_block a b)
join_same bytes a b ha hb =
    ap₂ (λ x y. record { offset = line_start bytes a.low; len = max x y - line_start bytes a.low })
    (block_end bytes a ha) (block_end bytes b hb)
    ∙ ap (λ x. record { offset = line_start bytes a.low; len = x - line_start bytes a.low })
    (greater_end bytes a.high b.high)

from_same : (bytes : List ℕ) (before : Block) (bs : List Block) → IsBlock (length (lines_of bytes)) before
    → AreBlocks (length (lines_of bytes)) bs →
    merged_spans_from (span_of bytes before) (map (span_of bytes) bs) ≡ map (span_of bytes) (blocks_from before bs)
from_same bytes before [] own h = refl
from_same bytes before (b ∷ bs) own h =
    let same : leb (line_start bytes b.low) (end_of_span (span_of bytes before)) ≡ leb b.low (before.high + 1) =
    touches_same bytes before b own h.0 in
    by_cases {C = merged_spans_from (span_of bytes before) (map (span_of bytes) (b ∷ bs))
    ≡ map (span_of bytes) (blocks_from before (b ∷ bs))} (leb b.low (before.high + 1))
    (λ t. rw (same, t) (ap (λ s. merged_spans_from s (map (span_of bytes) bs)) (join_same bytes before b own h.0)
    ∙ from_same bytes (joined_block before b) bs (join_there (length (lines_of bytes)) before b own) h.1))
    (λ f. rw (same, f) (ap (λ r. span_of bytes before ∷ r) (from_same bytes b bs h.0 h.1)))

pub joined_same : (bytes : List ℕ) (bs : List Block) → AreBlocks (length (lines_of bytes)) bs
    → merged_data_spans (map (span_of bytes) bs) ≡ map (span_of bytes) (joined_blocks bs)
joined_same bytes [] h = refl
joined_same bytes (b ∷ bs) h = from_same bytes b bs h.0 h.1

-- ---- their numbers

abbrev pub is_in_block : ℕ → Block → Bool
is_in_block k b = leb b.low k && leb k b.high

abbrev pub in_blocks : List Block → ℕ → Bool
in_blocks bs k = list_any (is_in_block k) bs

-- the numbers of the lines that are there
abbrev pub numbers_of : ℕ → Block → List ℕ
numbers_of all b = range_with_len b.low (min (b.high + 1) all - b.low)

none-below : (from k : ℕ) (bs : List Block) → AreAscending from bs → k < from → in_blocks bs k ≡ false
none-below from k [] h lt = refl
none-below from k (b ∷ bs) h lt = let no : leb b.low k ≡ false = lt-leb b.low k (omega (arith, h.0)) in
    rw no (none-below b.low k bs h.1 (omega (arith, h.0)))

pub merged : (all : ℕ) (before : Block) (bs : List Block) → IsBlock all before → AreBlocks all bs
    → AreAscending before.low bs →
    map (numbers_of all) (blocks_from before bs) ≡ ranges (filter (in_blocks (before ∷ bs)) (range_with_len 0 all))
merged all before [] own h up =
    sym (span_run before.low before.high all (λ k. false) own.order own.there (λ k a. refl)
    ∙ rw (filter-none (λ k. false) 0 all (λ k a b. refl)) refl)
merged all before (b ∷ bs) own h up =
    by_cases {C = map (numbers_of all) (blocks_from before (b ∷ bs))
    ≡ ranges (filter (in_blocks (before ∷ b ∷ bs)) (range_with_len 0 all))} (leb b.low (before.high + 1))
    (λ t. rw t (merged all (joined_block before b) bs (join_there all before b own) h.1
    (rises_lower (λ b. b.low) before.low b.low bs up.0 up.1)
    ∙ ap ranges (filter_agree _ _ (λ k. sym (or_assoc (is_in_block k before) (is_in_block k b) (in_blocks bs k)
    ∙ ap (λ x. x || in_blocks bs k) (within before.low before.high b.low b.high k up.0
    (leb-true b.low (before.high + 1) t)))) (range_with_len 0 all))))
    (λ f. let gap : before.high + 1 < b.low = leb-false b.low (before.high + 1) f in
    rw f (ap (λ r. numbers_of all before ∷ r) (merged all b bs h.0 h.1 up.1)
    ∙ sym (span_run before.low before.high all (in_blocks (b ∷ bs)) own.order own.there
    (λ k a. none-below b.low k (b ∷ bs) (omega arith, up.1) (omega arith)))))

-- the blocks joined by where they begin hold the maximal runs of all their numbers
joined_runs : (all : ℕ) (bs : List Block) → AreBlocks all bs → AreAscending 0 bs
    → map (numbers_of all) (joined_blocks bs) ≡ ranges (filter (in_blocks bs) (range_with_len 0 all))
joined_runs all [] h up = rw (filter-none (λ k. false) 0 all (λ k a b. refl)) refl
joined_runs all (b ∷ bs) h up = merged all b bs h.0 h.1 up.1

pub blocks_are_runs : (all : ℕ) (bs : List Block) → AreBlocks all bs
    → map (numbers_of all) (joined_blocks (blocks_by_begin bs)) ≡ ranges (filter (in_blocks bs) (range_with_len 0 all))
blocks_are_runs all bs h =
    joined_runs all (blocks_by_begin bs) (ordered_there all bs h) (sorted_rises (λ b. b.low) bs)
    ∙ ap ranges (filter_agree _ _ (λ k. sorted_any (λ b. b.low) (is_in_block k) bs) (range_with_len 0 all))
