-- The rows of shown lines stand among those of the labels over a source, and these among those of a diagnostic.
use Rattle.std.proofs.Common.{◌≡◌, ℕ, suc, ◌+◌, ◌≤◌, Bool, true, false, not, List, [], ◌∷◌, ◌++◌, map, length, drop}
use Rattle.std.proofs.Common.{refl, sym, ap, ◌∙◌, subst, append_assoc, append-nil, length-append, arith}
use Rattle.std.specs.Prelude.{decimal}
use Rattle.std.specs.List.{AllByRecursion}
use Rattle.std.proofs.Math.Seq.{drop-nil}
use Rattle.std.proofs.lemmas.List.{length-map, map-append}
use Rattle.miette_columns.specs.rules.Widths.{width_of}
use Rattle.miette_labels.specs.rules.Answers.{Highlight, first_of}
use Rattle.miette_labels.specs.rules.Contexts.{contents, lines_in}
use Rattle.miette_labels.specs.rules.Groups.{in_order}
use Rattle.miette_labels.specs.rules.Labels.{DrawnLabel}
use Rattle.miette_style.specs.rules.Rows.{Row}
use Rattle.miette_protocol.specs.views.Meaning.{Label}
use Rattle.miette_protocol.specs.rules.Reading.{Source, Span}
use Rattle.miette_runs.specs.rules.Runs.{Fragment}
use Rattle.miette_lines.specs.rules.Lines.{lines_of}
use Rattle.miette_snippet_laws.proofs.Beneath.{HasRoom, all_room}
use Rattle.miette_snippet_laws.proofs.Numerals.{decimal-mono}
use Rattle.miette_snippet_laws.proofs.Whole.{line_shown}
use Rattle.miette_snippet_rules.specs.rules.Frames.{bottom_row, number_width, top_row}
use Rattle.miette_snippet_rules.specs.rules.Gutters.{gutter_columns}
use Rattle.miette_snippet_rules.specs.rules.Numbers.{IsRange, last_of, ranges}
use Rattle.miette_snippet_rules.specs.rules.SnippetSettings.{SnippetSettings}
use Rattle.miette_snippet_rules.specs.rules.ShownLines.{framed_rows, line_at, numbered_rows, range_rows, range_width}
use Rattle.miette_snippet_rules.specs.rules.ShownLines.{rows_of_ranges}
use Rattle.miette_snippet_rules.specs.rules.SnippetLayout.{SnippetContext, line_or_break, line_rows, place_of}
use Rattle.miette_snippet_rules.specs.rules.Snippets.{is_kept, shown_numbers, snippets}
use Rattle.miette_graphical_rules.specs.rules.Answers.{SourceAnswers, first_source}
use Rattle.miette_graphical_rules.specs.rules.GraphicalSettings.{GraphicalSettings}
use Rattle.miette_graphical_rules.specs.rules.Snippets.{rows_over, runs_of_row, source_rows}
use Rattle.miette_graphical_rules.specs.rules.Sources.{LabelledSource, after_labels}
use Rattle.miette_graphical_rules.specs.laws.CharacterSets.{AreNarrow}
use Rattle.miette_graphical_rules.specs.laws.SnippetTheorems.{ShowsRanges, context_around, drawn_labels, group_settings}
use Rattle.miette_graphical_rules.specs.laws.SnippetTheorems.{groups_of}
use Rattle.miette_graphical_rules.specs.laws.SnippetTheorems.{line_number}
use Rattle.miette_graphical_rules.proofs.NarrowCharacters.{is_narrow}
use Rattle.miette_graphical_laws.specs.laws.ShownLines.{ShownLinesShow, ShownLinesStand, SourcesStand}
use Rattle.miette_graphical_laws.specs.laws.ShownLines.{AreInOrderIn, pieces_at, range_at, range_context, rows_of_place}

-- ---- lists among lists

among_front : {A : Type 0} (part back : List A) → AreInOrderIn part (part ++ back)
among_front part back = record { above = []; below = back; whole = refl }

pub stand_whole : {A : Type 0} (all : List A) → AreInOrderIn all all
stand_whole all = record { above = []; below = []; whole = sym (append-nil all) }

among_after : {A : Type 0} (front part all : List A) → AreInOrderIn part all → AreInOrderIn part (front ++ all)
among_after front part all h = record {
  above = front ++ h.above;
  below = h.below;
  whole = ap (λ r. front ++ r) h.whole ∙ sym (append_assoc front (h.above ++ part) h.below)
      ∙ ap (λ r. r ++ h.below) (sym (append_assoc front h.above part));
}

among_before : {A : Type 0} (part all back : List A) → AreInOrderIn part all → AreInOrderIn part (all ++ back)
among_before part all back h = record {
  above = h.above;
  below = h.below ++ back;
  whole = ap (λ r. r ++ back) h.whole ∙ append_assoc (h.above ++ part) h.below back;
}

pub among_trans : {A : Type 0} (part mid all : List A) → AreInOrderIn part mid → AreInOrderIn mid all
    → AreInOrderIn part all
among_trans part mid all h k =
    subst (λ rows. AreInOrderIn part rows) (sym k.whole)
    (among_before part (k.above ++ mid) k.below (among_after k.above part mid h))

among_map : {A B : Type 0} (f : A → B) (part all : List A) → AreInOrderIn part all
    → AreInOrderIn (map f part) (map f all)
among_map f part all h = record {
  above = map f h.above;
  below = map f h.below;
  whole = ap (map f) h.whole ∙ map-append f (h.above ++ part) h.below
      ∙ ap (λ r. r ++ map f h.below) (map-append f h.above part);
}

drop_later : {A : Type 0} (n : ℕ) (xs : List A) → drop n (drop 1 xs) ≡ drop (suc n) xs
drop_later n [] = drop-nil n ∙ sym (drop-nil (suc n))
drop_later n (x ∷ xs) = refl

-- ---- a line in its range

numbered_among : (kept : ℕ → Bool) (gap : Bool) (c : SnippetContext) (bytes : List ℕ) (pieces : List (List Highlight))
    (front : List ℕ) (k : ℕ) (back : List ℕ) → kept k ≡ true →
    AreInOrderIn (line_rows c (line_at (lines_of bytes) k) (k + 1) (first_of (drop (length front) pieces)))
    (numbered_rows kept gap c bytes pieces (front ++ k ∷ back))
numbered_among kept gap c bytes pieces [] k back h = record {
  above = [];
  below = numbered_rows kept (not (kept k)) c bytes (drop 1 pieces) back;
  whole = ap (λ b. line_or_break gap (not b) c (line_at (lines_of bytes) k) (k + 1) (first_of pieces)
      ++ numbered_rows kept (not (kept k)) c bytes (drop 1 pieces) back) h;
}
numbered_among kept gap c bytes pieces (j ∷ front) k back h =
    among_after (line_or_break gap (not (kept j)) c (line_at (lines_of bytes) j) (j + 1) (first_of pieces))
    (line_rows c (line_at (lines_of bytes) k) (k + 1) (first_of (drop (suc (length front)) pieces)))
    (numbered_rows kept (not (kept j)) c bytes (drop 1 pieces) (front ++ k ∷ back))
    (subst (λ (own : List (List Highlight)). AreInOrderIn
    (line_rows c (line_at (lines_of bytes) k) (k + 1) (first_of own))
    (numbered_rows kept (not (kept j)) c bytes (drop 1 pieces) (front ++ k ∷ back))) (drop_later (length front) pieces)
    (numbered_among kept (not (kept j)) c bytes (drop 1 pieces) front k back h))

-- ---- a range among ranges

-- the rows of ranges, in two parts
parted_at : (kept : ℕ → Bool) (s : SnippetSettings) (labels : List DrawnLabel) (bytes : List ℕ)
    (pieces : List (List (List Highlight))) (before : List (List ℕ)) (range : List ℕ) (after : List (List ℕ)) →
    (later : List (List Row)) × (rows_of_ranges kept s labels bytes pieces (before ++ range ∷ after)
    ≡ rows_of_ranges kept s labels bytes pieces before
    ++ range_rows kept s labels bytes (first_of (drop (length before) pieces)) range ∷ later)
parted_at kept s labels bytes pieces [] range after =
    (rows_of_ranges kept s labels bytes (drop 1 pieces) after, refl)
parted_at kept s labels bytes pieces (r ∷ before) range after =
    let rest = parted_at kept s labels bytes (drop 1 pieces) before range after in
    let first : List Row = range_rows kept s labels bytes (first_of pieces) r in
    let front : List (List Row) = rows_of_ranges kept s labels bytes (drop 1 pieces) before in (
      rest.0,
      ap (λ rows. first ∷ rows) rest.1
          ∙ ap (λ own. first ∷ front ++ range_rows kept s labels bytes (first_of own) range ∷ rest.0)
          (drop_later (length before) pieces),
    )

-- the rows of a range in a frame, where there are as many frames as ranges
framed_among : (s : SnippetSettings) (source : Source) (labels : List Label) (groups : List Span)
    (before : List (List Row)) (body : List Row) (after : List (List Row)) →
    length groups ≡ length (before ++ body ∷ after) →
    AreInOrderIn body (framed_rows s source labels groups (before ++ body ∷ after))
framed_among s source labels [] before body after same =
    absurd (omega (arith, same, length-append before (body ∷ after)))
framed_among s source labels (group ∷ groups) [] body after same =
    let bottom : Row = bottom_row s (number_width (contents s.layout.context_lines source group)) in record {
      above = top_row s (contents s.layout.context_lines source group) (place_of source group labels) ∷ [];
      below = bottom ∷ framed_rows s source labels groups after;
      whole = ap (λ rows. top_row s (contents s.layout.context_lines source group) (place_of source group labels)
          ∷ rows) (append_assoc body (bottom ∷ []) (framed_rows s source labels groups after));
    }
framed_among s source labels (group ∷ groups) (first ∷ before) body after same =
    among_after (top_row s (contents s.layout.context_lines source group) (place_of source group labels)
    ∷ first ++ bottom_row s (number_width (contents s.layout.context_lines source group)) ∷ []) body
    (framed_rows s source labels groups (before ++ body ∷ after))
    (framed_among s source labels groups before body after (omega (arith, same)))

ranges-length : (kept : ℕ → Bool) (s : SnippetSettings) (labels : List DrawnLabel) (bytes : List ℕ)
    (pieces : List (List (List Highlight))) (shown : List (List ℕ)) →
    length (rows_of_ranges kept s labels bytes pieces shown) ≡ length shown
ranges-length kept s labels bytes pieces [] = refl
ranges-length kept s labels bytes pieces (range ∷ shown) =
    ap suc (ranges-length kept s labels bytes (drop 1 pieces) shown)

-- where a line is shown, the snippets are the ranges of the shown lines
snippets_are : (context : ℕ) (bytes : List ℕ) (labels : List Label) (before : List (List ℕ)) (range : List ℕ)
    (after : List (List ℕ)) → ranges (shown_numbers context bytes labels) ≡ before ++ range ∷ after →
    snippets context bytes labels ≡ ranges (shown_numbers context bytes labels)
snippets_are context [] labels before range after there =
    absurd (omega (arith, ap length there, length-append before (range ∷ after)))
snippets_are context (byte ∷ bytes) labels before range after there = refl

pub lines_stand : (s : GraphicalSettings) (source : Source) (labels : List Label) → ShowsRanges s source labels
    → ShownLinesStand s source labels
lines_stand s source labels shows place pieces h =
    let kept : ℕ → Bool = is_kept s.layout.label_lines (context_around s source labels) source.bytes labels in
    let own : SnippetSettings = group_settings s source labels in
    let drawn : List DrawnLabel = drawn_labels s source labels in
    let groups : List Span = groups_of s source labels in
    let shown : List (List ℕ) = snippets (context_around s source labels) source.bytes labels in
    let range : List ℕ = range_at place in
    let rows : List (List ℕ) → List (List Row) = rows_of_ranges kept own drawn source.bytes pieces in
    let body : List Row = range_rows kept own drawn source.bytes (first_of (drop (length place.before) pieces)) range in
    let is : shown ≡ place.before ++ range ∷ place.after =
    snippets_are (context_around s source labels) source.bytes labels place.before range place.after place.there
    ∙ place.there in
    let parts = parted_at kept own drawn source.bytes pieces place.before range place.after in
    let bodies : rows shown ≡ rows place.before ++ body ∷ parts.0 = ap rows is ∙ parts.1 in
    let many : length groups ≡ length (rows place.before ++ body ∷ parts.0) =
    sym (length-map groups (λ group. lines_in source.bytes (contents own.layout.context_lines source group)))
    ∙ ap length shows.groups ∙ sym (ranges-length kept own drawn source.bytes pieces shown) ∙ ap length bodies in
    let line : AreInOrderIn (rows_of_place s source labels place pieces) body =
    numbered_among kept false (range_context s source labels range) source.bytes
    (first_of (drop (length place.before) pieces)) place.front place.line place.back h in
    let framed : AreInOrderIn (rows_of_place s source labels place pieces)
    (framed_rows own source (in_order labels) groups (rows shown)) =
    subst (λ all. AreInOrderIn (rows_of_place s source labels place pieces)
    (framed_rows own source (in_order labels) groups all)) (sym bodies)
    (among_trans (rows_of_place s source labels place pieces) body
    (framed_rows own source (in_order labels) groups (rows place.before ++ body ∷ parts.0)) line
    (framed_among own source (in_order labels) groups (rows place.before) body parts.0 many)) in
    subst (λ all. AreInOrderIn (map runs_of_row (rows_of_place s source labels place pieces)) all)
    (sym (shows.rows pieces))
    (among_map runs_of_row (rows_of_place s source labels place pieces)
    (framed_rows own source (in_order labels) groups (rows shown)) framed)

-- ---- what these rows show

at_place : {A : Type 0} (P : A → Type 0) (front : List A) (x : A) (back : List A) → AllByRecursion P (front ++ x ∷ back)
    → P x
at_place P [] x back h = h.0
at_place P (y ∷ front) x back h = at_place P front x back h.1

at_mapped : {A B : Type 0} (P : B → Type 0) (f : A → B) (front : List A) (x : A) (back : List A)
    → AllByRecursion P (map f (front ++ x ∷ back)) → P (f x)
at_mapped P f [] x back h = h.0
at_mapped P f (y ∷ front) x back h = at_mapped P f front x back h.1

last_past : (k : ℕ) (ks : List ℕ) → IsRange (k ∷ ks) → k ≤ last_of k ks
last_past k [] h = omega arith
last_past k (next ∷ ks) h = omega (arith, h.0, last_past next ks h.1)

last_after : (j : ℕ) (front : List ℕ) (k : ℕ) (back : List ℕ) → IsRange (j ∷ front ++ k ∷ back)
    → k ≤ last_of j (front ++ k ∷ back)
last_after j [] k back h = last_past k back h.1
last_after j (i ∷ front) k back h = last_after i front k back h.1

wide_enough : (front : List ℕ) (k : ℕ) (back : List ℕ) → IsRange (front ++ k ∷ back)
    → length (decimal (k + 1)) ≤ range_width (front ++ k ∷ back)
wide_enough [] k back h =
    decimal-mono (k + 1) (last_of k back + 1) (omega (arith, last_past k back h))
wide_enough (j ∷ front) k back h =
    decimal-mono (k + 1) (last_of j (front ++ k ∷ back) + 1) (omega (arith, last_after j front k back h))

pub lines_show : (s : GraphicalSettings) (source : Source) (labels : List Label) → AreNarrow width_of s.theme.characters
    → ShowsRanges s source labels → ShownLinesShow s source labels
lines_show s source labels narrow shows place pieces =
    let drawn : List DrawnLabel = drawn_labels s source labels in
    let range : List ℕ = range_at place in
    let columns : ℕ = gutter_columns drawn (map (line_number source) range) in
    line_shown (group_settings s source labels) (range_width range) columns drawn source.bytes
    (line_number source place.line) (place.line + 1) (pieces_at place pieces) (is_narrow s.theme.characters narrow)
    (at_mapped (λ line. HasRoom drawn line columns) (line_number source) place.front place.line place.back
    (all_room drawn (map (line_number source) range)))
    (wide_enough place.front place.line place.back
    (at_place IsRange place.before range place.after
    (subst (λ all. AllByRecursion IsRange all) place.there shows.consecutive)))

-- ---- the rows over each source

pub sources_stand : (s : GraphicalSettings) (sources : List LabelledSource) (a : SourceAnswers)
    (all : List (List Fragment))
    → AreInOrderIn (rows_over s sources a) all → SourcesStand s sources a all
sources_stand s [] a all h = tt
sources_stand s (it ∷ more) a all h =
    let own : List (List Fragment) = source_rows s it.source it.labels (first_source a) in
    let rest : List (List Fragment) = rows_over (after_labels (length it.labels) s) more (drop 1 a) in (
      among_trans own (own ++ rest) all (among_front own rest) h,
      sources_stand (after_labels (length it.labels) s) more (drop 1 a) all
          (among_trans rest (own ++ rest) all (among_after own rest rest (stand_whole rest)) h),
    )
