-- Labels at the end of a source stand after the text of its last line, and the rows of no other label change.
use Rattle.std.proofs.Common.{ℕ, ◌+◌, ◌-◌, ◌<◌, ◌≡◌, max, Bool, true, false, cond, eqb, ltb, leb, ◌||◌, List, []}
use Rattle.std.proofs.Common.{◌∷◌, ◌++◌, map, length, Option, Some, None, refl, sym, ap, ap₂, ◌∙◌, arith, drop}
use Rattle.std.specs.Prelude.{unwrap_or, option_map}
use Rattle.std.specs.List.{list_any}
use Rattle.std.proofs.lemmas.Bool.{eq-eqb, lt-ltb, le-leb, ltb-true, and_left, and_parts, and_right}
use Rattle.miette_lines.specs.rules.Lines.{Line, lines_of, IsCut}
use Rattle.miette_protocol.specs.views.Meaning.{Label}
use Rattle.miette_protocol.specs.rules.Reading.{Span, Source, Contents}
use Rattle.miette_style.specs.declared.style.Style.{Style}
use Rattle.miette_labels.specs.rules.Answers.{Answers, Highlight, first_of}
use Rattle.miette_labels.specs.rules.Around.{label_context}
use Rattle.miette_labels.specs.rules.Contexts.{contents, lines_of_contents}
use Rattle.miette_labels.specs.rules.Groups.{Refusal, in_order, first_refusal, groups_of, groups_fail, some_fails}
use Rattle.miette_labels.specs.rules.Labels.{DrawnLabel, drawn_label, drawn_from, style_at, parts_of, is_at_end}
use Rattle.miette_labels.specs.rules.Labels.{shows_end, some_shows_end}
use Rattle.miette_snippet_rules.specs.rules.FoldedLabels.{LabelExtent, extents_of_labels}
use Rattle.miette_snippet_rules.specs.rules.Frames.{refused_row, number_width, top_row, bottom_row}
use Rattle.miette_snippet_rules.specs.rules.Gutters.{gutter_columns}
use Rattle.miette_snippet_rules.specs.rules.Underlines.{MeasuredText, underlines_from, underline_from, underline_until}
use Rattle.miette_snippet_rules.specs.rules.SnippetLayout.{cells_of, line_or_break, rows_of_lines, left_out, body_rows}
use Rattle.miette_snippet_rules.specs.rules.SnippetLayout.{drawn_labels, all_snippets, settings_around, place_of}
use Rattle.miette_snippet_rules.specs.rules.SnippetLayout.{rows_unless, snippet_rows}
use Rattle.miette_style.specs.rules.Rows.{Row}
use Rattle.miette_snippet_laws.specs.laws.Ends.{draws_ends, last_of_lines, stands_after, EndsStandAfter, AreAfterText}
use Rattle.miette_snippet_laws.specs.laws.Ends.{BeginAfter, with_ends}
use Rattle.miette_lines.proofs.Cuts.{cut_le, lines_cut}
use Rattle.miette_lines.proofs.Cases.{by_cases}
use Rattle.miette_labels.proofs.OwnContexts.{own_ordered, order_any}
use Rattle.miette_labels.proofs.SourceEnd.{shows_around}
use Rattle.miette_snippet_rules.specs.rules.SnippetLayout.{snippet_context}
use Rattle.miette_snippet_rules.specs.rules.SnippetSettings.{SnippetSettings}

-- ---- the last line

last_cut : (at n : ℕ) (ls : List Line) → IsCut at ls n → at < n → ((last_of_lines ls).start < n)
    × ((last_of_lines ls).end ≡ n)
last_cut at n [] h lt = absurd (omega (arith, h, lt))
last_cut at n (l ∷ []) h lt = (omega (arith, h.0, lt), h.4)
last_cut at n (l ∷ next ∷ ls) h lt = last_cut l.end n (next ∷ ls) h.4 (omega (arith, h.4.3, cut_le next.end ls n h.4.4))

last_of_bytes : (bytes : List ℕ) → 0 < length bytes → ((last_of_lines (lines_of bytes)).start < length bytes)
    × ((last_of_lines (lines_of bytes)).end ≡ length bytes)
last_of_bytes bytes some = last_cut 0 (length bytes) (lines_of bytes) (lines_cut bytes) some

-- ---- labels on it

-- an empty label at a line's last byte
at_last : (line : Line) (n : ℕ) (style : Style) (parts : List (List ℕ)) → line.start < n → line.end ≡ n →
    stands_after line (record { start = n - 1; after = n - 1; style = style; parts = parts; after_text = true }) ≡ true
at_last line n style parts from to =
    let empty : eqb (n - 1) (n - 1) ≡ true = eq-eqb (n - 1) (n - 1) refl in
    let a : leb line.start (n - 1) ≡ true = le-leb line.start (n - 1) (omega (arith, from)) in
    let b : ltb (n - 1) line.end ≡ true = lt-ltb (n - 1) line.end (omega (arith, from, to)) in
    let c : ltb line.start (n - 1 + 1) ≡ true = lt-ltb line.start (n - 1 + 1) (omega (arith, from)) in
    let d : leb (n - 1 + 1) line.end ≡ true = le-leb (n - 1 + 1) line.end (omega (arith, from, to)) in
    rw (empty, a, b, c, d) refl

one_stands : (line : Line) (styles : List Style) (n i : ℕ) (label : Label) → line.start < n → line.end ≡ n →
    stands_after line (drawn_label true styles n i label) ≡ is_at_end n label
one_stands line styles n i label from to =
    by_cases {C = stands_after line (drawn_label true styles n i label) ≡ is_at_end n label} (eqb label.span.offset n)
    (λ t. rw t (at_last line n (style_at styles i) (parts_of label.text) from to)) (λ f. rw f refl)

all_stand : (line : Line) (styles : List Style) (n i : ℕ) (labels : List Label) → line.start < n → line.end ≡ n →
    map (stands_after line) (drawn_from true styles n i labels) ≡ map (is_at_end n) labels
all_stand line styles n i [] from to = refl
all_stand line styles n i (label ∷ labels) from to = ap₂ (λ b bs. b ∷ bs) (one_stands line styles n i label from to)
    (all_stand line styles n (i + 1) labels from to)

-- a source whose end is shown isn't empty
some_bytes : (n : ℕ) (lines : Label → ℕ) (labels : List Label)
    → list_any (λ label. shows_end n (lines label) label) labels ≡ true → 0 < n
some_bytes n lines [] h = cc
some_bytes n lines (label ∷ labels) h =
    by_cases {C = 0 < n} (ltb 0 n) (λ t. ltb-true 0 n t)
    (λ f. let no : shows_end n (lines label) label ≡ false = and_left (ltb 0 n) _ f in
    some_bytes n lines labels (sym (ap (λ b. b || list_any (λ label. shows_end n (lines label) label) labels) no) ∙ h))

pub ends_stand : (s : SnippetSettings) (bytes : List ℕ) (labels : List Label)
    → draws_ends s (length bytes) labels ≡ true → EndsStandAfter s bytes labels
ends_stand s bytes labels drawn =
    let n : ℕ = length bytes in
    let line : Line = last_of_lines (lines_of bytes) in
    let last = last_of_bytes bytes (some_bytes n _ labels (and_parts s.layout.end_labels _ drawn).1) in
    ap (λ b. map (stands_after line) (drawn_from b s.theme.styles.highlights n 0 labels)) drawn
    ∙ all_stand line s.theme.styles.highlights n 0 labels last.0 last.1

-- ---- their marks

far : (text : MeasuredText) (reached : ℕ) (label : DrawnLabel) → label.after_text ≡ true
    → underline_from text reached label ≡ max text.width reached
far text reached label h = rw h refl

far_from : (text : MeasuredText) (reached : ℕ) (labels : List DrawnLabel)
    → BeginAfter text.width reached (underlines_from text reached labels)
far_from text reached [] = tt
far_from text reached (label ∷ labels) = (
  far text reached label,
  far_from text (underline_until text reached label)
      labels,
)

pub all_after_text : (text : MeasuredText) (labels : List DrawnLabel) → AreAfterText text labels
all_after_text text labels = far_from text 0 labels

-- ---- where no label shows the end, nothing changes

lines_alike : (a b : Bool) (out : ℕ → Line → Bool) (gap : Bool) (s : SnippetSettings) (w columns : ℕ)
    (labels : List DrawnLabel) (source : List ℕ) (number : ℕ) (pieces : List (List Highlight)) (ls : List Line) →
    rows_of_lines out gap (snippet_context (with_ends a s) w columns labels (cells_of (with_ends a s) source)) number
    pieces ls
    ≡ rows_of_lines out gap (snippet_context (with_ends b s) w columns labels (cells_of (with_ends b s) source)) number
    pieces ls
lines_alike a b out gap s w columns labels source number pieces [] = refl
lines_alike a b out gap s w columns labels source number pieces (l ∷ ls) =
    ap (λ rows. line_or_break gap (out number l) (snippet_context (with_ends a s) w columns labels
    (λ _. cells_of (with_ends a s) source l)) l number (first_of pieces) ++ rows)
    (lines_alike a b out (out number l) s w columns labels source (number + 1) (drop 1 pieces) ls)

drawn_alike : (a : Bool) (s : SnippetSettings) (n : ℕ) (labels : List Label)
    → some_shows_end s.layout.context_lines n labels ≡ false
    → drawn_labels (with_ends a s) n labels ≡ drawn_labels (with_ends false s) n labels
drawn_alike a s n labels none = ap (λ ends. drawn_from ends s.theme.styles.highlights n 0 labels) (and_right a _ none)

snippets_alike : (a : Bool) (s : SnippetSettings) (label_extents : List LabelExtent) (source : Source)
    (labels : List Label)
    (pieces : List (List (List Highlight))) (groups : List Span)
    → some_shows_end s.layout.context_lines (length source.bytes) labels
    ≡ false →
    all_snippets (with_ends a s) label_extents source labels pieces groups
    ≡ all_snippets (with_ends false s) label_extents source labels pieces groups
snippets_alike a s label_extents source labels pieces [] none = refl
snippets_alike a s label_extents source labels pieces (group ∷ groups) none =
    let n : ℕ = length source.bytes in
    let read : Contents = contents s.layout.context_lines source group in
    let framed : List Row → List Row = λ rows. top_row s read (place_of source group labels) ∷ rows
    ++ bottom_row s (number_width read) ∷ [] in
    let body : List DrawnLabel → List Row = λ drawn. body_rows (with_ends a s) label_extents drawn source.bytes read
    (first_of pieces) in
    let drawn : List DrawnLabel = drawn_labels (with_ends false s) n labels in
    ap₂ (λ rows more. framed rows ++ more)
    (ap body (drawn_alike a s n labels none)
    ∙ lines_alike a false (left_out s read.line (lines_of_contents read) label_extents) false s (number_width read)
    (gutter_columns drawn (lines_of_contents read)) drawn source.bytes (read.line + 1) (first_of pieces)
    (lines_of_contents read))
    (snippets_alike a s label_extents source labels (drop 1 pieces) groups none)

unless_alike : (a : Bool) (s : SnippetSettings) (source : Source) (labels : List Label) (answers : Answers)
    (refused : Option Refusal) → some_shows_end s.layout.context_lines (length source.bytes) labels ≡ false →
    rows_unless (with_ends a s) source labels answers (option_map (refused_row (with_ends a s)) refused)
    ≡ rows_unless (with_ends false s) source labels answers (option_map (refused_row (with_ends false s)) refused)
unless_alike a s source labels answers (Some r) none = refl
unless_alike a s source labels answers None none =
    let groups : List Span = groups_of s.layout.context_lines source answers.join_fails labels in
    ap (λ rows. cond (groups_fail s.layout.context_lines source answers.join_fails labels
    || some_fails answers.place_fails groups)
    None (Some rows))
    (snippets_alike a (settings_around s labels) (extents_of_labels s.layout.label_lines s.layout.context_lines source
    labels)
    source labels
    answers.pieces groups (shows_around s.layout.context_lines (length source.bytes) labels ∙ none))

pub shows_ordered : (context n : ℕ) (labels : List Label) → some_shows_end context n (in_order labels)
    ≡ some_shows_end context n labels
shows_ordered context n labels =
    ap (λ own. list_any (λ l. shows_end n (unwrap_or l.context (cond own (max 1 context) context)) l) (in_order labels))
    (own_ordered labels)
    ∙ order_any (λ l. shows_end n (label_context context labels l) l) labels

pub rows_alike : (a : Bool) (s : SnippetSettings) (source : Source) (labels : List Label) (answers : Answers)
    → some_shows_end s.layout.context_lines (length source.bytes) labels ≡ false →
    snippet_rows (with_ends a s) source labels answers ≡ snippet_rows (with_ends false s) source labels answers
rows_alike a s source labels answers none =
    unless_alike a s source (in_order labels) answers (first_refusal source.bytes answers.label_fails (in_order labels))
    (shows_ordered s.layout.context_lines (length source.bytes) labels ∙ none)
