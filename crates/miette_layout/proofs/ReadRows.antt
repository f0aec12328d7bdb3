-- The rows that are drawn from a read's contents are those of the definition, which has the whole source.
use Rattle.miette_style.proofs.Paging.{put_append, put_nil}
use Rattle.miette_style.specs.views.Printouts.{Printout, ◌⊕◌}
use Rattle.std.proofs.Common.{ℕ, ◌+◌, ◌-◌, ◌^◌, ◌<◌, ◌≤◌, ◌≡◌, max, Bool, true, false, cond, eqb, ltb, List}
use Rattle.std.proofs.Common.{[], ◌∷◌, ◌++◌, length, map, take, drop, Option, refl, sym, ap, ◌∙◌, subst, arith, All}
use Rattle.std.proofs.Common.{slice_index_or}
use Rattle.std.specs.Prelude.{slice_range}
use Rattle.std.specs.List.{AllByRecursion, filter}
use Rattle.std.proofs.lemmas.List.{drop-drop, drop-take, length-take, length-map, drop_all}
use Rattle.std.proofs.Math.Seq.{take-take}
use Rattle.std.proofs.lemmas.Bool.{ne_eqb, eqb-true, eqb-false}
use Rattle.std.proofs.lemmas.List.Elements.{All-from_recursion, All-tail}
use Rattle.miette_lines.specs.rules.Lines as P
use Rattle.miette_lines.specs.rules.Lines.{Line, IsCut}
use Rattle.miette_protocol.specs.views.Meaning.{Label}
use Rattle.miette_protocol.specs.rules.Reading.{Span, Source, Contents, data_start, data_end}
use Rattle.miette_style.specs.declared.style.Style.{Style}
use Rattle.miette_highlight.specs.rules.HighlighterCalls.{Call, Leads, asked, restarted}
use Rattle.miette_labels.specs.declared.reading.ReadLabel.{ReadLabel}
use Rattle.miette_lines.specs.declared.lines.LineOfText.{LineOfText}
use Rattle.miette_labels.specs.declared.placed.PlacedLabel.{PlacedLabel}
use Rattle.miette_labels.specs.rules.Answers.{Highlight, first_of}
use Rattle.miette_style.specs.rules.Rows.{Row}
use Rattle.miette_columns.specs.rules.Cells.{Cell, characters, cells_from}
use Rattle.miette_labels.specs.rules.Contexts.{contents, lines_of_contents}
use Rattle.miette_snippet_rules.specs.rules.FoldedLabels.{LabelExtent}
use Rattle.miette_snippet_rules.specs.rules.Frames.{Place, top_row, top_row_of, bottom_row}
use Rattle.miette_snippet_rules.specs.rules.Frames.{number_width, width_of_lines}
use Rattle.miette_labels.specs.views.ProgramLabels.{drawn_of}
use Rattle.miette_labels.specs.rules.Groups.{in_order}
use Rattle.miette_snippet_rules.specs.rules.Gutters.{gutter_columns, most_labels}
use Rattle.miette_labels.specs.rules.Labels.{DrawnLabel, is_one_line, is_multi_line, one_line, multi_line}
use Rattle.miette_snippet_rules.specs.rules.SnippetLayout.{cells_of, line_or_break, line_or_break_of, rows_of_lines}
use Rattle.miette_snippet_rules.specs.rules.SnippetLayout.{left_out, body_rows}
use Rattle.miette_snippet_rules.specs.rules.Highlighting.{EachHasPieces, ArePieces, decoded_text, texts_of, line_calls}
use Rattle.miette_snippet_rules.specs.rules.Highlighting.{piece_of}
use Rattle.miette_snippet_frames.specs.views.ContentsRows.{cells_in, text_in, texts_in, contents_snippet, PutsRows}
use Rattle.miette_snippet_frames.specs.views.Widths.{width_of_count, gutter_of}
use Rattle.miette_labels.specs.views.Placing.{LabelPlacement, placement_of, place_label, placements_from}
use Rattle.miette_labels.specs.views.Placing.{begins_at_end, end_drawn}
use Rattle.miette_labels.specs.views.Reads.{IsRead}
use Rattle.miette_lines.specs.views.Walking.{line_of_text}
use Rattle.miette_labels.specs.views.Sweeping.{is_one, is_multi, AreSorted}
use Rattle.miette_labels.specs.views.ProgramLabels.{no_label}
use Rattle.miette_labels.specs.views.LabelCounts.{most_multi}
use Rattle.miette_style.specs.views.Tokens.{rows_tokens}
use Rattle.miette_lines.proofs.Cases.{by_cases}
use Rattle.miette_lines.proofs.Cuts.{cut_from, cut_le}
use Rattle.miette_labels.proofs.LabelEnds.{end_told}
use Rattle.miette_labels.proofs.GroupsOfReads.{reads_ascend}
use Rattle.miette_labels.proofs.SortedLabels.{Rises, non_decreasing}
use Rattle.miette_labels.proofs.RefusedLabel.{read_of}
use Rattle.miette_snippet_rules.proofs.RowTokens.{told_rows-append}
use Rattle.miette_snippet_rules.specs.rules.SnippetLayout.{snippet_context, line_in, line_shown}
use Rattle.miette_snippet_rules.specs.rules.SnippetSettings.{SnippetSettings}

-- a part of a part
pub slices : (bytes : List ℕ) (from to a b : ℕ) → from ≤ a → a ≤ b → b ≤ from + (to - from)
    → slice_range (slice_range bytes from to) (a - from) (b - from) ≡ slice_range bytes a b
slices bytes from to a b low le high =
    let k : ℕ = a - from in
    let m : ℕ = to - from - k in
    let whole : to - from ≡ k + m = omega arith in
    let same : b - from - k ≡ b - a = omega arith in
    let start : from + k ≡ a = omega arith in
    ap (λ n. take (b - from - k) (drop k (take n (drop from bytes)))) whole
    ∙ ap (take (b - from - k)) (drop-take k m (drop from bytes))
    ∙ ap (λ xs. take (b - from - k) (take m xs)) (drop-drop k from bytes ∙ ap (λ n. drop n bytes) start)
    ∙ ap (λ n. take n (take m (drop a bytes))) same
    ∙ take-take (b - a) m (drop a bytes) (omega arith)

abbrev Inside : ℕ → ℕ → Line → Type 0
Inside low high line = (low ≤ line.start) × (line.start ≤ line.text_end) × (line.text_end ≤ high)

cut_inside : (low at n high : ℕ) (ls : List Line) → IsCut at ls n → low ≤ at → n ≤ high
    → AllByRecursion (Inside low high) ls
cut_inside low at n high [] h le top = tt
cut_inside low at n high (l ∷ ls) h le top = (
  (omega (arith, h.0), omega (arith, h.0, h.1), omega (arith, h.2, top, cut_le l.end ls n h.4)),
  cut_inside low l.end n high ls h.4 (omega (arith, h.3)) top,
)

contents_from : (out : ℕ → Line → Bool) (gap : Bool) (s : SnippetSettings) (w columns : ℕ) (drawn : List DrawnLabel)
    (bytes : List ℕ) (from to number : ℕ) (pieces : List (List Highlight)) (ls : List Line)
    → AllByRecursion (Inside from (from + (to - from))) ls →
    rows_of_lines out gap (snippet_context s w columns drawn (cells_in s from (slice_range bytes from to))) number
    pieces ls
    ≡ rows_of_lines out gap (snippet_context s w columns drawn (cells_of s bytes)) number pieces ls
contents_from out gap s w columns drawn bytes from to number pieces [] h = refl
contents_from out gap s w columns drawn bytes from to number pieces (l ∷ ls) h =
    ap (λ text. line_or_break gap (out number l) (snippet_context s w columns drawn
    (λ _. cells_from s.width s.layout.tab_width false l.start 0 (characters text))) l number (first_of pieces)
    ++ rows_of_lines out (out number l) (snippet_context s w columns drawn
    (cells_in s from (slice_range bytes from to))) (number + 1) (drop 1 pieces) ls)
    (slices bytes from to l.start l.text_end h.0.0 h.0.1 h.0.2)
    ∙ ap (λ r. line_or_break gap (out number l) (snippet_context s w columns drawn (cells_of s bytes)) l number
    (first_of pieces) ++ r)
    (contents_from out (out number l) s w columns drawn bytes from to (number + 1) (drop 1 pieces) ls h.1)

texts_from : (bytes : List ℕ) (from to : ℕ) (ls : List Line) → AllByRecursion (Inside from (from + (to - from))) ls
    → texts_in from (slice_range bytes from to) ls ≡ texts_of bytes ls
texts_from bytes from to [] h = refl
texts_from bytes from to (l ∷ ls) h =
    ap (λ text. decoded_text text ∷ texts_in from (slice_range bytes from to) ls)
    (slices bytes from to l.start l.text_end h.0.0 h.0.1 h.0.2)
    ∙ ap (λ r. decoded_text (slice_range bytes l.start l.text_end) ∷ r) (texts_from bytes from to ls h.1)

lines_inside : (bytes : List ℕ) (from to : ℕ) → AllByRecursion (Inside from (from + (to - from)))
    (P.lines_from from (slice_range bytes from to))
lines_inside bytes from to =
    let bits : List ℕ = slice_range bytes from to in
    cut_inside from from (from + length bits) (from + (to - from)) (P.lines_from from bits)
    (cut_from from bits (from + length bits) refl) (omega arith)
    (omega (arith, length-take (to - from) (drop from bytes)))

-- a snippet from its read's contents
abbrev pub contents_lines : SnippetSettings → List LabelExtent → List DrawnLabel → Contents → List (List Highlight)
    → List Row
contents_lines s label_extents drawn held pieces =
    rows_of_lines (left_out s held.line (lines_of_contents held) label_extents) false
    (snippet_context s (number_width held) (gutter_columns drawn (lines_of_contents held)) drawn
    (cells_in s held.span.offset held.bytes)) (held.line + 1) pieces (lines_of_contents held)

pub contents_body : (s : SnippetSettings) (label_extents : List LabelExtent) (drawn : List DrawnLabel) (context : ℕ)
    (source : Source) (span : Span) (pieces : List (List Highlight)) →
    contents_lines s label_extents drawn (contents context source span) pieces
    ≡ body_rows s label_extents drawn source.bytes (contents context source span) pieces
contents_body s label_extents drawn context source span pieces =
    let held : Contents = contents context source span in
    contents_from (left_out s held.line (lines_of_contents held) label_extents) false s (number_width held)
    (gutter_columns drawn (lines_of_contents held)) drawn source.bytes (data_start source.bytes span context)
    (data_end source.bytes span context) (held.line + 1) pieces (lines_of_contents held)
    (lines_inside source.bytes (data_start source.bytes span context) (data_end source.bytes span context))

-- the texts of its lines
abbrev pub contents_texts : Contents → List (List ℕ)
contents_texts held = texts_in held.span.offset held.bytes (lines_of_contents held)

pub contents_texts_are : (context : ℕ) (source : Source) (span : Span) → contents_texts (contents context source span)
    ≡ texts_of source.bytes (lines_of_contents (contents context source span))
contents_texts_are context source span =
    texts_from source.bytes (data_start source.bytes span context) (data_end source.bytes span context)
    (lines_of_contents (contents context source span))
    (lines_inside source.bytes (data_start source.bytes span context) (data_end source.bytes span context))

-- labels that are placed, and labels that are drawn

filter_mapped : (f : PlacedLabel → DrawnLabel) (p : DrawnLabel → Bool) (q : PlacedLabel → Bool) (xs : List PlacedLabel)
    → ((x : PlacedLabel) → p (f x) ≡ q x) → filter p (map f xs) ≡ map f (filter q xs)
filter_mapped f p q [] same = refl
filter_mapped f p q (x ∷ xs) same =
    by_cases {C = filter p (map f (x ∷ xs)) ≡ map f (filter q (x ∷ xs))} (q x)
    (λ t. let u : p (f x) ≡ true = same x ∙ t in rw (u, t) (ap (λ r. f x ∷ r) (filter_mapped f p q xs same)))
    (λ g. let u : p (f x) ≡ false = same x ∙ g in rw (u, g) (filter_mapped f p q xs same))

one_same : (placed : List PlacedLabel) (line : Line)
    → map drawn_of (filter (is_one line) placed) ≡ one_line line (map drawn_of placed)
one_same placed line = sym (filter_mapped drawn_of (is_one_line line) (is_one line) placed (λ x. refl))

multi_same : (placed : List PlacedLabel) (line : Line)
    → map drawn_of (filter (is_multi line) placed) ≡ multi_line line (map drawn_of placed)
multi_same placed line = sym (filter_mapped drawn_of (is_multi_line line) (is_multi line) placed
    (λ x. refl))

pub most_is : (placed : List PlacedLabel) (lines : List Line) → most_multi placed lines
    ≡ most_labels (map drawn_of placed) lines
most_is placed [] = refl
most_is placed (line ∷ lines) =
    let many : length (filter (is_multi line) placed) ≡ length (multi_line line (map drawn_of placed)) =
    sym (length-map (filter (is_multi line) placed) drawn_of) ∙ ap length (multi_same placed line) in
    ap (λ n. max n (most_multi placed lines)) many
    ∙ ap (max (length (multi_line line (map drawn_of placed)))) (most_is placed lines)

width_is : (line : ℕ) (ls : List Line) → width_of_lines line ls ≡ width_of_count line (length ls)
width_is line [] = refl
width_is line (l ∷ ls) = let no : eqb (length (l ∷ ls)) 0 ≡ false = ne_eqb (length (l ∷ ls)) 0 (λ e. omega (arith, e))
    in rw no refl

-- what the page holds after the three parts of a snippet
pub told_snippet : (before : Printout) (top bottom : Row) (body : List Row)
    → ((before ⊕ rows_tokens (top ∷ [])) ⊕ rows_tokens body) ⊕ rows_tokens (bottom ∷ []) ≡ before
    ⊕ rows_tokens (top ∷ body ++ bottom ∷ [])
told_snippet before top bottom body =
    put_append (before ⊕ rows_tokens (top ∷ [])) (rows_tokens body) (rows_tokens (bottom ∷ []))
    ∙ ap (λ r. (before ⊕ rows_tokens (top ∷ [])) ⊕ r) (sym (told_rows-append body (bottom ∷ [])))
    ∙ put_append before (rows_tokens (top ∷ [])) (rows_tokens (body ++ bottom ∷ []))
    ∙ ap (λ r. before ⊕ r) (sym (told_rows-append (top ∷ []) (body ++ bottom ∷ [])))

-- placed labels come by offset

-- a label further on is placed further on
lower_le : (ends : Bool) (n a b : ℕ) → a ≤ b → b ≤ n → cond (begins_at_end (end_told ends n) a) (a - 1) a
    ≤ cond (begins_at_end (end_told ends n) b) (b - 1) b
lower_le false n a b le top = le
lower_le true n a b le top =
    by_cases {C = cond (eqb a n) (a - 1) a ≤ cond (eqb b n) (b - 1) b} (eqb a n)
    (λ t. by_cases {C = cond (eqb a n) (a - 1) a ≤ cond (eqb b n) (b - 1) b} (eqb b n)
    (λ u. rw (t, u) (omega (arith, le))) (λ u. rw (t, u) (omega (arith, le))))
    (λ f. by_cases {C = cond (eqb a n) (a - 1) a ≤ cond (eqb b n) (b - 1) b} (eqb b n)
    (λ u. rw (f, u) (omega (arith, le, eqb-true b n u, eqb-false a n f))) (λ u. rw (f, u) le))

placed_after : (after_text : Bool) (offset after : ℕ) → offset ≤ after → cond after_text (offset - 1) offset
    ≤ cond after_text (offset - 1) after
placed_after true offset after le = omega arith
placed_after false offset after le = le

placed_ascends : (ends : Bool) (styles : List Style) (context : ℕ) (source : Source) (labels : List Label) (from i : ℕ)
    (reads : List ReadLabel) (ps : List PlacedLabel) → All (IsRead context source labels) reads →
    Rises (λ r. r.span.offset) from reads →
    map placement_of ps ≡ placements_from (end_told ends (length source.bytes)) styles i labels reads →
    Rises (λ (p : PlacedLabel). p.start)
    (cond (begins_at_end (end_told ends (length source.bytes)) from) (from - 1) from) ps
    × AllByRecursion (λ (p : PlacedLabel). p.start ≤ p.after) ps
placed_ascends ends styles context source labels from i [] [] h up is = (tt, tt)
placed_ascends ends styles context source labels from i [] (p ∷ ps) h up is = absurd (cc)
placed_ascends ends styles context source labels from i (r ∷ rs) [] h up is = absurd (cc)
placed_ascends ends styles context source labels from i (r ∷ rs) (p ∷ ps) h up is =
    let end : Option ℕ = end_told ends (length source.bytes) in
    let own : IsRead context source labels r = h 0 r (omega arith) in
    let next = placed_ascends ends styles context source labels r.span.offset (i + 1) rs ps
    (All-tail (IsRead context source labels) r rs h) up.1 (ap (drop 1) is) in
    let first : placement_of p ≡ place_label end styles i labels r =
    ap (λ xs. slice_index_or xs 0 (placement_of p)) is in
    let start : p.start ≡ cond (begins_at_end end r.span.offset) (r.span.offset - 1) r.span.offset =
    ap (λ (x : LabelPlacement). x.start) first in
    let after : p.after ≡ cond (begins_at_end end r.span.offset) (r.span.offset - 1) (end_drawn r) =
    ap (λ (x : LabelPlacement). x.after) first in
    let low = lower_le ends (length source.bytes) from r.span.offset up.0 own.accepted.begins in
    let high = placed_after (begins_at_end end r.span.offset) r.span.offset (end_drawn r) (omega arith) in (
      (
        omega (arith, start, low),
        subst (λ (n : ℕ). Rises (λ (q : PlacedLabel). q.start) n ps) (sym start) next.0,
      ),
      (omega (arith, start, after, high), next.1),
    )

pub placed_sorted : (ends : Bool) (styles : List Style) (context : ℕ) (source : Source) (labels : List Label)
    (reads : List ReadLabel) (ps : List PlacedLabel) → All (IsRead context source labels) reads →
    map (read_of labels) reads ≡ in_order labels →
    map placement_of ps ≡ placements_from (end_told ends (length source.bytes)) styles 0 labels reads → AreSorted ps
placed_sorted ends styles context source labels reads ps h e is =
    let from : ℕ = cond (begins_at_end (end_told ends (length source.bytes)) 0) (0 - 1) 0 in
    let both = placed_ascends ends styles context source labels 0 0 reads ps h
    (reads_ascend context source labels reads e h) is in
    record {
      order = λ i j le lt. non_decreasing (λ (p : PlacedLabel). p.start) from ps both.0 i j no_label le lt;
      drawn = λ i lt. All-from_recursion (λ (p : PlacedLabel). p.start ≤ p.after) ps both.1 i no_label lt;
    }

pub told_parts : (p0 p1 p2 p3 : Printout) (top bottom : Row) (body : List Row) → p1 ≡ p0 ⊕ rows_tokens (top ∷ []) → p2
    ≡ p1 ⊕ rows_tokens body → p3 ≡ p2 ⊕ rows_tokens (bottom ∷ []) →
    p3 ≡ p0 ⊕ rows_tokens (top ∷ body ++ bottom ∷ [])
told_parts p0 p1 p2 p3 top bottom body a b c =
    c ∙ ap (λ p. p ⊕ rows_tokens (bottom ∷ [])) (b ∙ ap (λ p. p ⊕ rows_tokens body) a) ∙ told_snippet p0 top bottom body

-- the loop over a snippet's lines

-- the text of a line of the bytes ends before they do
pub text_fits : (start : ℕ) (bytes : List ℕ) (line : LineOfText) → start ≤ line.start → line.start ≤ line.text_end
    → line.text_end ≤ line.end → line.end ≤ start + length bytes → start + length bytes < 2 ^ 64 →
    line.start + length (take (line.text_end - start - (line.start - start)) (drop (line.start - start) bytes)) < 2 ^ 64
text_fits start bytes line from text ending to small =
    omega (
      arith,
      from,
      text,
      ending,
      to,
      small,
      length-take (line.text_end - start - (line.start - start))
          (drop (line.start - start) bytes),
    )

-- the lines before some are drawn, and whether the last of them is left out: whatever pieces the others have, there are
-- pieces for all, and calls that bring a highlighter from its first state over the state now
abbrev pub AreLinedBefore : (ℕ → Line → Bool) → Bool → SnippetSettings → ℕ → ℕ → List DrawnLabel → ℕ → List ℕ → ℕ → Bool
    → (List Call → Type 0) → (List Call → Type 0) → List Line → ℕ → Printout → Printout → Type 0
AreLinedBefore out gap s w columns drawn start bytes first blank begun now left number before page =
    (more : List (List Highlight)) → EachHasPieces blank (texts_in start bytes left) more →
    (all : List (List Highlight)) × EachHasPieces blank (texts_in start bytes (P.lines_from start bytes)) all
    × ((later : List Call) → now (line_calls (texts_in start bytes left) more ++ later)
    → begun (line_calls (texts_in start bytes (P.lines_from start bytes)) all ++ later))
    × (page ⊕ rows_tokens (rows_of_lines out gap (snippet_context s w columns drawn (cells_in s start bytes)) number
    more left) ≡ before
    ⊕ rows_tokens (rows_of_lines out false (snippet_context s w columns drawn (cells_in s start bytes)) first all
    (P.lines_from start bytes)))

-- the same of the lines from a place on
abbrev pub AreLined : (ℕ → Line → Bool) → Bool → SnippetSettings → ℕ → ℕ → List DrawnLabel → ℕ → List ℕ → ℕ → Bool
    → (List Call → Type 0) → (List Call → Type 0) → ℕ → ℕ → Printout → Printout → Type 0
AreLined out gap s w columns drawn start bytes first blank begun now at number before page =
    AreLinedBefore out gap s w columns drawn start bytes first blank begun now
    (P.lines_from (start + at) (drop at bytes)) number before page

pub lines_first : (out : ℕ → Line → Bool) (s : SnippetSettings) (w columns : ℕ) (drawn : List DrawnLabel) (start : ℕ)
    (bytes : List ℕ) (first : ℕ) (blank : Bool) (begun : List Call → Type 0) (page : Printout)
    → AreLined out false s w columns drawn start bytes first blank begun begun 0 first page page
lines_first out s w columns drawn start bytes first blank begun page = λ more h.
    let e : start + 0 ≡ start = omega arith in (
      more,
      subst (λ (n : ℕ). EachHasPieces blank (texts_in start bytes (P.lines_from n bytes)) more) e h,
      (λ later k. subst (λ (n : ℕ). begun (line_calls (texts_in start bytes (P.lines_from n bytes)) more ++ later)) e
          k),
      ap (λ n. page ⊕ rows_tokens (rows_of_lines out false (snippet_context s w columns drawn (cells_in s start bytes))
          first more (P.lines_from n bytes))) e,
    )

-- the rows of one line more
lines_more_of : (out : ℕ → Line → Bool) (gap left : Bool) (s : SnippetSettings) (w columns : ℕ)
    (drawn : List DrawnLabel) (start : ℕ) (bytes : List ℕ) (first : ℕ) (blank : Bool)
    (begun was now : List Call → Type 0) (at number : ℕ) (line : LineOfText) (pieces : List Highlight)
    (before page more : Printout) →
    AreLined out gap s w columns drawn start bytes first blank begun was at number before page → left
    ≡ out number (line_of_text line) →
    P.lines_from (start + at) (drop at bytes) ≡ line_of_text line
    ∷ P.lines_from line.end (drop (line.end - start) bytes) → start ≤ line.end →
    ArePieces blank (decoded_text (text_in start bytes (line_of_text line))) pieces →
    Leads was (asked (decoded_text (text_in start bytes (line_of_text line))) (map piece_of pieces) ∷ []) now →
    more ≡ page ⊕ rows_tokens (line_or_break gap left (snippet_context s w columns drawn (cells_in s start bytes))
    (line_of_text line) number pieces) →
    AreLined out left s w columns drawn start bytes first blank begun now (line.end - start) (number + 1) before more
lines_more_of out gap left s w columns drawn start bytes first blank begun was now at number line pieces before page
    more h leaves part low p call e = λ later own.
    let sums : start + (line.end - start) ≡ line.end = omega (arith, low) in
    let onwards : List Line = P.lines_from line.end (drop (line.end - start) bytes) in
    let here : Bool → List Row = λ o. line_or_break gap o (snippet_context s w columns drawn (cells_in s start bytes))
    (line_of_text line) number pieces in
    let there : Bool → List Row = λ o. rows_of_lines out o (snippet_context s w columns drawn (cells_in s start bytes))
    (number + 1) later onwards in
    let others : EachHasPieces blank (texts_in start bytes onwards) later =
    subst (λ (n : ℕ). EachHasPieces blank (texts_in start bytes (P.lines_from n (drop (line.end - start) bytes)))
    later) sums own in
    let rest = h (pieces ∷ later) (subst (λ (ls : List Line). EachHasPieces blank (texts_in start bytes ls)
    (pieces ∷ later)) (sym part) (p, others)) in (
      rest.0,
      rest.1,
      (λ calls k. rest.2 calls (subst (λ (ls : List Line). was
          (line_calls (texts_in start bytes ls) (pieces ∷ later) ++ calls)) (sym part)
          (call (line_calls (texts_in start bytes onwards) later ++ calls)
          (subst (λ (n : ℕ). now (line_calls (texts_in start bytes (P.lines_from n (drop (line.end - start) bytes)))
          later ++ calls)) sums k)))),
      ap (λ n. more ⊕ rows_tokens (rows_of_lines out left (snippet_context s w columns drawn (cells_in s start bytes))
          (number + 1) later (P.lines_from n (drop (line.end - start) bytes)))) sums
          ∙ ap (λ m. m ⊕ rows_tokens (there left)) e
          ∙ put_append page (rows_tokens (here left)) (rows_tokens (there left))
          ∙ ap (λ t. page ⊕ t) (sym (told_rows-append (here left) (there left)))
          ∙ ap (λ o. page ⊕ rows_tokens (here o ++ there o)) leaves
          ∙ ap (λ ls. page ⊕ rows_tokens (rows_of_lines out gap
          (snippet_context s w columns drawn (cells_in s start bytes)) number (pieces ∷ later) ls))
          (sym part)
          ∙ rest.3,
    )

pub lines_more : (out : ℕ → Line → Bool) (gap left : Bool) (s : SnippetSettings) (w columns : ℕ)
    (placed : List PlacedLabel) (start : ℕ) (bytes : List ℕ) (first : ℕ) (blank : Bool)
    (begun was now : List Call → Type 0) (at number : ℕ) (line : LineOfText) (one multi : List PlacedLabel)
    (pieces : List Highlight) (before page more : Printout) →
    AreLined out gap s w columns (map drawn_of placed) start bytes first blank begun was at number before page
    → left ≡ out number (line_of_text line) →
    P.lines_from (start + at) (drop at bytes) ≡ line_of_text line
    ∷ P.lines_from line.end (drop (line.end - start) bytes) → start ≤ line.end →
    one ≡ filter (is_one (line_of_text line)) placed → multi ≡ filter (is_multi (line_of_text line)) placed →
    ArePieces blank (decoded_text (text_in start bytes (line_of_text line))) pieces →
    Leads was (asked (decoded_text (text_in start bytes (line_of_text line))) (map piece_of pieces) ∷ []) now →
    more ≡ page ⊕ rows_tokens (line_or_break_of gap left (line_in s w columns (line_of_text line)
    (map drawn_of multi)) (line_shown number (map drawn_of one)
    (cells_in s start bytes (line_of_text line)) pieces)) →
    AreLined out left s w columns (map drawn_of placed) start bytes first blank begun now (line.end - start)
    (number + 1) before more
lines_more out gap left s w columns placed start bytes first blank begun was now at number line one multi pieces
    before page more h leaves part low a b p call e =
    let drawn : List DrawnLabel = map drawn_of placed in
    let cells : List Cell = cells_in s start bytes (line_of_text line) in
    lines_more_of out gap left s w columns drawn start bytes first blank begun was now at number line pieces before page
    more h leaves part low p call
    (e ∙ ap (λ x. page ⊕ rows_tokens (line_or_break_of gap left
    (line_in s w columns (line_of_text line) (map drawn_of multi)) (line_shown number x cells pieces)))
    (ap (map drawn_of) a
    ∙ one_same placed (line_of_text line))
    ∙ ap (λ x. page ⊕ rows_tokens (line_or_break_of gap left (line_in s w columns (line_of_text line) x)
    (line_shown number (one_line (line_of_text line) drawn) cells pieces))) (ap (map drawn_of) b
    ∙ multi_same placed (line_of_text line)))

-- all lines are drawn
pub lines_all : (out : ℕ → Line → Bool) (gap : Bool) (s : SnippetSettings) (w columns : ℕ) (drawn : List DrawnLabel)
    (start : ℕ) (bytes : List ℕ) (first : ℕ) (blank : Bool) (begun now : List Call → Type 0) (at number : ℕ)
    (before page : Printout) →
    AreLined out gap s w columns drawn start bytes first blank begun now at number before page → length bytes ≤ at →
    PutsRows blank (λ calls. Leads begun calls now) (texts_in start bytes (P.lines_from start bytes))
    (λ pieces. rows_of_lines out false (snippet_context s w columns drawn (cells_in s start bytes)) first pieces
    (P.lines_from start bytes)) before page
lines_all out gap s w columns drawn start bytes first blank begun now at number before page h le =
    let none : drop at bytes ≡ [] = drop_all at bytes le in
    let all = h [] (subst (λ (xs : List ℕ). EachHasPieces blank (texts_in start bytes (P.lines_from (start + at) xs))
    []) (sym none) tt) in
    record {
      pieces = all.0;
      are = all.1;
      calls = λ later k. all.2 later (subst (λ (xs : List ℕ). now
          (line_calls (texts_in start bytes (P.lines_from (start + at) xs)) [] ++ later)) (sym none) k);
      is = sym (put_nil page) ∙ ap (λ xs. page ⊕ rows_tokens
          (rows_of_lines out gap (snippet_context s w columns drawn (cells_in s start bytes)) number []
          (P.lines_from (start + at) xs))) (sym none)
          ∙ all.3;
    }

-- the rows of a snippet whose lines are counted
told_counted : (s : SnippetSettings) (label_extents : List LabelExtent) (placed : List PlacedLabel)
    (held : Contents) (place : Option Place) (pieces : List (List Highlight)) (w columns lines most : ℕ)
    (p0 p1 p2 p3 : Printout) →
    lines ≡ length (lines_of_contents held) → most ≡ most_multi placed (lines_of_contents held) → w
    ≡ width_of_count held.line lines → columns ≡ gutter_of most →
    p1 ≡ p0 ⊕ rows_tokens (top_row_of s w held.name (ltb 1 lines) place ∷ []) →
    p2 ≡ p1 ⊕ rows_tokens (rows_of_lines (left_out s held.line (lines_of_contents held) label_extents) false
    (snippet_context s w columns (map drawn_of placed) (cells_in s held.span.offset held.bytes))
    (held.line + 1) pieces (lines_of_contents held)) →
    p3 ≡ p2 ⊕ rows_tokens (bottom_row s w ∷ []) → p3 ≡ p0
    ⊕ rows_tokens (contents_snippet s label_extents (map drawn_of placed) held place pieces)
told_counted s label_extents placed held place pieces w columns lines most p0 p1 p2 p3 many widest width gutter a b c =
    let drawn : List DrawnLabel = map drawn_of placed in
    let real : List Line = lines_of_contents held in
    let out : ℕ → Line → Bool = left_out s held.line real label_extents in
    let whole : w ≡ number_width held = width ∙ ap (width_of_count held.line) many ∙ sym (width_is held.line real) in
    let room : columns ≡ gutter_columns drawn real = gutter ∙ ap gutter_of (widest ∙ most_is placed real) in
    told_parts p0 p1 p2 p3 (top_row_of s w held.name (ltb 1 lines) place) (bottom_row s w)
    (rows_of_lines out false (snippet_context s w columns drawn (cells_in s held.span.offset held.bytes))
    (held.line + 1) pieces real) a b c
    ∙ ap (λ n. p0 ⊕ rows_tokens (top_row_of s n held.name (ltb 1 lines) place
    ∷ rows_of_lines out false (snippet_context s n columns drawn (cells_in s held.span.offset held.bytes))
    (held.line + 1) pieces real
    ++ bottom_row s n ∷ [])) whole
    ∙ ap (λ n. p0 ⊕ rows_tokens (top_row_of s (number_width held) held.name (ltb 1 n) place
    ∷ rows_of_lines out false (snippet_context s (number_width held) columns drawn
    (cells_in s held.span.offset held.bytes)) (held.line + 1) pieces real ++ bottom_row s (number_width held) ∷ []))
    many
    ∙ ap (λ n. p0 ⊕ rows_tokens (top_row s held place ∷ rows_of_lines out false
    (snippet_context s (number_width held) n drawn (cells_in s held.span.offset held.bytes)) (held.line + 1)
    pieces real ++ bottom_row s (number_width held) ∷ [])) room

-- what the getters of a read gave stands for its parts
pub told_contents : (s : SnippetSettings) (label_extents : List LabelExtent) (placed : List PlacedLabel)
    (held : Contents) (place : Option Place) (blank : Bool) (happen : List Call → Type 0)
    (w columns lines most line start : ℕ) (name : Option (List ℕ)) (bytes : List ℕ) (p0 p1 p2 p3 : Printout) →
    line ≡ held.line → start ≡ held.span.offset → name ≡ held.name → bytes ≡ held.bytes →
    lines ≡ length (P.lines_from start bytes) → most ≡ most_multi placed (P.lines_from start bytes) → w
    ≡ width_of_count line lines → columns ≡ gutter_of most →
    p1 ≡ p0 ⊕ rows_tokens (top_row_of s w name (ltb 1 lines) place ∷ []) →
    PutsRows blank happen (texts_in start bytes (P.lines_from start bytes))
    (λ pieces. rows_of_lines (left_out s line (P.lines_from start bytes) label_extents) false
    (snippet_context s w columns (map drawn_of placed) (cells_in s start bytes)) (line + 1) pieces
    (P.lines_from start bytes)) p1 p2 →
    p3 ≡ p2 ⊕ rows_tokens (bottom_row s w ∷ []) →
    PutsRows blank happen (contents_texts held) (contents_snippet s label_extents (map drawn_of placed) held place) p0
    p3
told_contents s label_extents placed held place blank happen w columns lines most line start name bytes p0 p1 p2 p3 la
    at
    named data' many widest width gutter a b c =
    let drawn : List DrawnLabel = map drawn_of placed in
    let same : P.lines_from start bytes ≡ lines_of_contents held = ap (λ n. P.lines_from n bytes) at
    ∙ ap (P.lines_from held.span.offset) data' in
    record {
      pieces = b.pieces;
      calls = subst (λ (ls : List Line). happen (line_calls (texts_in held.span.offset held.bytes ls) b.pieces)) same
          (subst (λ (n : ℕ). happen (line_calls (texts_in n held.bytes (P.lines_from start bytes)) b.pieces)) at
          (subst (λ (bs : List ℕ). happen (line_calls (texts_in start bs (P.lines_from start bytes)) b.pieces))
          data' b.calls));
      are = subst (λ (ls : List Line). EachHasPieces blank (texts_in held.span.offset held.bytes ls) b.pieces) same
          (subst (λ (n : ℕ). EachHasPieces blank (texts_in n held.bytes (P.lines_from start bytes)) b.pieces) at
          (subst (λ (bs : List ℕ). EachHasPieces blank (texts_in start bs (P.lines_from start bytes)) b.pieces)
          data' b.are));
      is = told_counted s label_extents placed held place b.pieces w columns lines most p0 p1 p2 p3
          (many ∙ ap length same) (widest ∙ ap (most_multi placed) same) (width ∙ ap (λ n. width_of_count n lines) la)
          gutter
          (a ∙ ap (λ n. p0 ⊕ rows_tokens (top_row_of s w n (ltb 1 lines) place ∷ [])) named)
          (b.is ∙ ap (λ ls. p1 ⊕ rows_tokens (rows_of_lines (left_out s line ls label_extents) false
          (snippet_context s w columns drawn (cells_in s start bytes)) (line + 1) b.pieces ls)) same
          ∙ ap (λ n. p1 ⊕ rows_tokens (rows_of_lines (left_out s line (lines_of_contents held) label_extents) false
          (snippet_context s w columns drawn (cells_in s n bytes)) (line + 1) b.pieces (lines_of_contents held)))
          at
          ∙ ap (λ n. p1 ⊕ rows_tokens (rows_of_lines (left_out s line (lines_of_contents held) label_extents) false
          (snippet_context s w columns drawn (cells_in s held.span.offset n)) (line + 1) b.pieces
          (lines_of_contents held))) data'
          ∙ ap (λ n. p1 ⊕ rows_tokens (rows_of_lines (left_out s n (lines_of_contents held) label_extents) false
          (snippet_context s w columns drawn (cells_in s held.span.offset held.bytes)) (n + 1) b.pieces
          (lines_of_contents held))) la)
          c;
    }

-- a restart before the calls for lines
pub restarted_first : (blank : Bool) (had begun now : List Call → Type 0) (texts : List (List ℕ))
    (rows : List (List Highlight) → List Row) (read : Contents) (before after : Printout) →
    Leads had (restarted read ∷ []) begun → PutsRows blank (λ calls. Leads begun calls now) texts rows before after
    → PutsRows blank (λ calls. Leads had (restarted read ∷ calls) now) texts rows before after
restarted_first blank had begun now texts rows read before after first h =
    record {
      pieces = h.pieces;
      are = h.are;
      calls = λ later k. first (line_calls texts h.pieces ++ later)
          (h.calls later k);
      is = h.is;
    }
