-- The rows of snippets in their styles, and the same rows in plain ones: frames, lines and whole snippets.
use Rattle.std.proofs.Common.{◌≡◌, ℕ, ◌+◌, ◌-◌, Bool, true, false, ◌&&◌, ◌||◌, not, if◌then◌else◌, List, [], ◌∷◌, ◌++◌}
use Rattle.std.proofs.Common.{map, length, replicate, decimal, codes, chars, Option, Some, None, IfSome}
use Rattle.std.proofs.Common.{refl, sym, ap, ap₂, ◌∙◌, subst, drop}
use Rattle.std.specs.Prelude.{nat_lt, slice_range}
use Rattle.std.specs.List.{AllByRecursion}
use Rattle.miette_lines.specs.rules.Lines.{Line}
use Rattle.miette_protocol.specs.views.Meaning.{Label}
use Rattle.miette_protocol.specs.rules.Reading.{Span, Source, Contents, is_in_bounds}
use Rattle.miette_labels.specs.rules.Answers.{Highlight, next_answer, first_of}
use Rattle.miette_snippet_rules.specs.rules.LabelColumns.{underline_ends}
use Rattle.miette_snippet_rules.specs.rules.CutLines.{cut_line, dots, dots_width, row_underlines, shown_runs}
use Rattle.miette_columns.specs.rules.Cells.{Cell, characters}
use Rattle.miette_snippet_laws.specs.laws.Clean.{IsClean, IsCleanText, IsCleanLabel, IsCleanSource}
use Rattle.miette_snippet_laws.specs.laws.Clean.{AreCleanDrawings}
use Rattle.miette_labels.specs.rules.Contexts.{contents, lines_of_contents}
use Rattle.miette_snippet_rules.specs.rules.LabelRows.{underline_rows}
use Rattle.miette_snippet_laws.specs.laws.PlainStyles.{AreAllPlain, restyled_snippets}
use Rattle.miette_snippet_rules.specs.rules.FoldedLabels.{LabelExtent}
use Rattle.miette_snippet_rules.specs.rules.Frames.{Place, text_or_none, refused_row, number_start}
use Rattle.miette_snippet_rules.specs.rules.Frames.{other_start, break_start, place_text, location, location_of}
use Rattle.miette_snippet_rules.specs.rules.Frames.{top_row_of, bottom_row, number_width}
use Rattle.miette_labels.specs.rules.Groups.{Refusal, first_refusal}
use Rattle.miette_snippet_rules.specs.rules.Gutters.{number_gutter, other_gutter, break_gutter, closing_rows}
use Rattle.miette_snippet_rules.specs.rules.Gutters.{gutter_columns}
use Rattle.miette_labels.specs.rules.Labels.{DrawnLabel, some_shows_end, one_line, multi_line, closing_labels}
use Rattle.miette_labels.specs.rules.Labels.{is_one_line, is_multi_line, ends_on, starts_on}
use Rattle.miette_snippet_rules.specs.rules.SnippetLayout.{text_of_cells, cells_of, before_each, line_rows_of}
use Rattle.miette_snippet_rules.specs.rules.SnippetLayout.{line_rows, break_row, line_or_break, rows_of_lines, left_out}
use Rattle.miette_snippet_rules.specs.rules.SnippetLayout.{body_rows, place_of, drawn_labels, snippet, all_snippets}
use Rattle.miette_snippet_rules.specs.rules.SnippetLayout.{cut_ends, line_cut}
use Rattle.miette_snippet_rules.specs.rules.Underlines.{marks}
use Rattle.miette_style.specs.rules.Rows.{Run, Row, plain_run}
use Rattle.miette_style.specs.declared.style.Style.{Style}
use Rattle.miette_style.specs.rules.Styles.{plain}
use Rattle.miette_snippet_laws.proofs.PlainLabels.{filter_plain, all_filter, marks_plain, marks_clean}
use Rattle.miette_snippet_laws.proofs.PlainLabels.{gutter_plain, drawn_plain, drawn_clean}
use Rattle.miette_snippet_laws.proofs.CleanTexts.{AreCleanCells, clean_cons, clean_append, clean_replicate, clean_if}
use Rattle.miette_snippet_laws.proofs.CleanTexts.{clean_range, clean_decimal, clean_characters, clean_cells}
use Rattle.miette_snippet_laws.proofs.PlainRows.{plain_label, HasCleanParts, PlainRow, PlainRows, plain_nil, plain_cons}
use Rattle.miette_snippet_laws.proofs.PlainRows.{plain_append, plain_if, rows_nil, rows_cons, rows_append, plain_styled}
use Rattle.miette_snippet_laws.proofs.PlainRows.{plain_blank, plain_number_gutter, plain_other_gutter}
use Rattle.miette_snippet_laws.proofs.PlainRows.{plain_break_gutter}
use Rattle.miette_snippet_laws.proofs.PlainRows.{plain_closing_rows, plain_marked, all_append, plain_mark}
use Rattle.miette_snippet_laws.proofs.PlainCuts.{cut_clean, ends_plain, plain_dots, plain_shown, shown_marks_plain}
use Rattle.miette_snippet_laws.proofs.PlainCuts.{shown_clean, spreads_plain}
use Rattle.miette_snippet_laws.proofs.GlyphsOfRows.{before_pieces}
use Rattle.miette_snippet_laws.proofs.PlainStyles.{plain_styles}
use Rattle.miette_snippet_rules.specs.rules.SnippetLayout.{snippet_context, line_in, line_shown}
use Rattle.miette_snippet_rules.specs.rules.SnippetSettings.{SnippetSettings}

before_all : (Q : Run → Type 0) (front : Row) (rows : List Row) → AllByRecursion Q front
    → AllByRecursion (AllByRecursion Q) rows → AllByRecursion (AllByRecursion Q) (before_each front rows)
before_all Q front [] h k = tt
before_all Q front (row ∷ rows) h k = (all_append Q front row h k.0, before_all Q front rows h k.1)

pub record IsCleanRefusal (refused : Refusal) : Type 0 where
  pub label : IsCleanLabel refused.label
  pub name : IsClean refused.name

-- in plain styles with these highlights
abbrev pub plain_with : List Style → SnippetSettings → SnippetSettings
plain_with hs s = restyled_snippets s (plain_styles hs)

module _ (P : Type 0) (s : SnippetSettings) (hs : List Style) (are_plain : AreAllPlain hs)
    (clean : P → AreCleanDrawings s.theme.characters) where
  pub plain_run_row : (text : List ℕ) → (P → IsClean text) → PlainRow P (plain_run s.width text ∷ [])
      (plain_run s.width text ∷ [])
  plain_run_row text h = plain_cons P (plain_styled P s.width plain text h) (plain_nil P)

  -- ---- what stands before gutters

  pub plain_number_start : (w number : ℕ)
      → PlainRow P (number_start (plain_with hs s) w number) (number_start s w number)
  plain_number_start w number =
      plain_cons P (plain_blank P s 1)
      (plain_cons P (plain_styled P s.width s.theme.styles.linum
      (replicate (w - length (decimal number)) 32 ++ decimal number)
      (λ p.
      clean_append (replicate (w - length (decimal number)) 32) (decimal number)
      (clean_replicate (w - length (decimal number)) 32 refl) (clean_decimal number)))
      (plain_run_row (32 ∷ s.theme.characters.vbar ∷ 32 ∷ [])
      (λ p. clean_cons 32 (s.theme.characters.vbar ∷ 32 ∷ []) refl
      (clean_cons s.theme.characters.vbar (32 ∷ []) (clean p).vbar refl))))

  pub plain_other_start : (w : ℕ) → PlainRow P (other_start (plain_with hs s) w) (other_start s w)
  plain_other_start w =
      plain_cons P (plain_blank P s (w + 2))
      (plain_run_row (s.theme.characters.vbar_break ∷ 32 ∷ []) (λ p. clean_cons s.theme.characters.vbar_break (32 ∷ [])
      (clean p).vbar_break refl))

  -- ---- frames

  place_clean : (place : Place) → IsClean (place_text place)
  place_clean place =
      clean_append (decimal (place.line + 1) ++ codes ":") (decimal (place.column + 1))
      (clean_append (decimal (place.line + 1)) (codes ":") (clean_decimal (place.line + 1)) refl)
      (clean_decimal (place.column + 1))

  plain_location : (name : Option (List ℕ)) (several : Bool) (place : Place) → (P → IfSome name IsCleanText)
      → PlainRow P (location (plain_with hs s) name several place) (location s name several place)
  plain_location (Some name) several place h =
      plain_cons P (plain_styled P s.width plain (codes "[") (λ p. refl))
      (plain_cons P (plain_styled P s.width s.theme.styles.link (if s.layout.primary_start then chars name ++ codes ":"
      ++ place_text place else chars name) (λ p.
      clean_if s.layout.primary_start (chars name ++ codes ":" ++ place_text place) (chars name)
      (clean_append (chars name ++ codes ":") (place_text place) (clean_append (chars name) (codes ":") (h p) refl)
      (place_clean place)) (h p)))
      (plain_run_row (codes "]") (λ p. refl)))
  plain_location None several place h =
      plain_if P ((several || s.layout.one_line_start) && s.layout.primary_start)
      (plain_run_row (codes "[" ++ place_text place ++ codes "]")
      (λ p. clean_append (codes "[" ++ place_text place) (codes "]")
      (clean_append (codes "[") (place_text place) refl (place_clean place)) refl))
      (plain_run_row (replicate 3 s.theme.characters.hbar)
      (λ p. clean_replicate 3 s.theme.characters.hbar (clean p).hbar))

  plain_location_of : (name : Option (List ℕ)) (several : Bool) (place : Option Place) → (P → IfSome name IsCleanText)
      → PlainRow P (location_of (plain_with hs s) name several place) (location_of s name several place)
  plain_location_of name several None h = plain_nil P
  plain_location_of name several (Some place) h = plain_location name several place h

  pub plain_top : (w : ℕ) (name : Option (List ℕ)) (several : Bool) (place : Option Place) →
      (P → IfSome name IsCleanText)
      → PlainRow P (top_row_of (plain_with hs s) w name several place) (top_row_of s w name several place)
  plain_top w name several place h =
      plain_cons P (plain_blank P s (w + 2))
      (plain_cons P (plain_styled P s.width plain (s.theme.characters.ltop ∷ s.theme.characters.hbar ∷ [])
      (λ p. clean_cons s.theme.characters.ltop (s.theme.characters.hbar ∷ []) (clean p).ltop
      (clean_cons s.theme.characters.hbar [] (clean p).hbar refl)))
      (plain_location_of name several place h))

  pub plain_bottom : (w : ℕ) → PlainRow P (bottom_row (plain_with hs s) w) (bottom_row s w)
  plain_bottom w =
      plain_cons P (plain_blank P s (w + 2))
      (plain_run_row (s.theme.characters.lbot ∷ replicate 4 s.theme.characters.hbar)
      (λ p. clean_cons s.theme.characters.lbot (replicate 4 s.theme.characters.hbar) (clean p).lbot
      (clean_replicate 4 s.theme.characters.hbar (clean p).hbar)))

  -- ---- the rows of a line

  plain_before : {x y : Row} (xs ys : List Row) → PlainRow P x y → PlainRows P xs ys
      → PlainRows P (before_each x xs) (before_each y ys)
  plain_before {x} {y} xs ys h k = record {
    plain = before_all (λ run. run.style ≡ plain) x xs h.plain k.plain;
    same = before_pieces x xs ∙ ap₂ (λ front pieces. map (λ r. front ++ r) pieces) h.same k.same
        ∙ sym (before_pieces y ys);
    clean = λ p. before_all (λ run. IsClean (map (λ q. q.code) run.glyphs)) y ys (h.clean p) (k.clean p);
  }

  plain_line_rows_of : (w columns : ℕ) (one multi : List DrawnLabel) (line : Line) (number : ℕ) (cells : List Cell)
      (pieces : List Highlight) →
      (P → AllByRecursion HasCleanParts one) → (P → AllByRecursion HasCleanParts multi) → (P → AreCleanCells cells) →
      PlainRows P (line_rows_of (line_in (plain_with hs s) w columns line (map plain_label multi))
      (line_shown number (map plain_label one) cells []))
      (line_rows_of (line_in s w columns line multi) (line_shown number one cells pieces))
  plain_line_rows_of w columns one multi line number cells pieces h k j =
      let text = text_of_cells cells line.text_end in
      let found = marks text one in
      let plain_found = marks text (map plain_label one) in
      let many = dots_width s.theme.characters in
      let run = dots s.theme in
      let run_in_plain = dots (plain_with hs s).theme in
      let cut = line_cut s line cells one multi in
      let plain_cut = line_cut s line cells (map plain_label one) (map plain_label multi) in
      let all = cut_ends line cells one multi in
      let plain_cut_is : plain_cut ≡ cut =
      ap (λ es. cut_line many s.layout.line_columns es cells) (ap₂ (λ a b. a ++ b)
      (ap underline_ends (marks_plain text one) ∙ ends_plain found) (spreads_plain line text multi)) in
      let plain_text : PlainRow P (shown_runs run_in_plain plain_cut [] cells) (shown_runs run cut pieces cells) =
      subst (λ o. PlainRow P (shown_runs run_in_plain o [] cells) (shown_runs run cut pieces cells)) (sym plain_cut_is)
      (plain_shown P run_in_plain run cut pieces cells (plain_dots P s.theme (plain_styles hs) refl) j
      (λ p. cut_clean many s.layout.line_columns all cells (j p))) in
      let shown_plain : row_underlines many plain_cut plain_found ≡ map plain_mark (row_underlines many cut found) =
      ap₂ (row_underlines many) plain_cut_is (marks_plain text one) ∙ shown_marks_plain many cut found in
      let numbers = plain_number_gutter P s clean line columns multi in
      let others = plain_other_gutter P s clean line columns multi in
      let start = plain_append P (number_start (plain_with hs s) w number) (number_start s w number)
      (number_gutter s line columns (map plain_label multi)) (number_gutter s line columns multi)
      (plain_number_start w number) numbers in
      let first = plain_append P (number_start (plain_with hs s) w number
      ++ number_gutter s line columns (map plain_label multi))
      (number_start s w number ++ number_gutter s line columns multi)
      (shown_runs run_in_plain plain_cut [] cells) (shown_runs run cut pieces cells) start plain_text
      in
      let below = plain_append P (other_start (plain_with hs s) w) (other_start s w)
      (other_gutter s line columns (map plain_label multi)) (other_gutter s line columns multi)
      (plain_other_start w) others in
      let plain_marks = row_underlines many plain_cut plain_found in
      let marked : PlainRows P (underline_rows s plain_marks) (underline_rows s (row_underlines many cut found)) =
      subst (λ ms. PlainRows P (underline_rows s ms) (underline_rows s (row_underlines many cut found)))
      (sym shown_plain) (plain_marked P s clean (row_underlines many cut found)
      (λ p. shown_clean many cut found (marks_clean text one (h p)))) in
      let ends : PlainRows P (closing_rows s line columns (map plain_label multi)
      (closing_labels line (map plain_label multi))) (closing_rows s line columns multi
      (closing_labels line multi)) =
      subst (λ ls. PlainRows P (closing_rows s line columns (map plain_label multi) ls)
      (closing_rows s line columns multi (closing_labels line multi)))
      (sym (filter_plain (λ label. ends_on line label && not (starts_on line label)) (λ label. refl) multi))
      (plain_closing_rows P s clean line columns multi (closing_labels line multi)
      (λ p. all_filter HasCleanParts (λ label. ends_on line label && not (starts_on line label)) multi (k p))) in
      rows_cons P first
      (rows_append P (before_each (other_start (plain_with hs s) w
      ++ other_gutter s line columns (map plain_label multi)) (underline_rows s plain_marks))
      (before_each (other_start s w ++ other_gutter s line columns multi)
      (underline_rows s (row_underlines many cut found)))
      (before_each (other_start (plain_with hs s) w) (closing_rows s line columns (map plain_label multi)
      (closing_labels line (map plain_label multi)))) (before_each (other_start s w)
      (closing_rows s line columns multi (closing_labels line multi)))
      (plain_before (underline_rows s plain_marks) (underline_rows s (row_underlines many cut found)) below marked)
      (plain_before (closing_rows s line columns (map plain_label multi) (closing_labels line (map plain_label multi)))
      (closing_rows s line columns multi (closing_labels line multi)) (plain_other_start w) ends))

  plain_line_rows : (w columns : ℕ) (labels : List DrawnLabel) (line : Line) (number : ℕ) (cells : List Cell)
      (pieces : List Highlight) →
      (P → AllByRecursion HasCleanParts labels) → (P → AreCleanCells cells) →
      PlainRows P (line_rows (snippet_context (plain_with hs s) w columns (map plain_label labels) (λ _. cells)) line
      number [])
      (line_rows (snippet_context s w columns labels (λ _. cells)) line number pieces)
  plain_line_rows w columns labels line number cells pieces h j =
      let y = line_rows (snippet_context s w columns labels (λ _. cells)) line number pieces in
      subst (λ one. PlainRows P (line_rows_of (line_in (plain_with hs s) w columns line
      (multi_line line (map plain_label labels))) (line_shown number one cells [])) y)
      (sym (filter_plain (is_one_line line) (λ label. refl) labels))
      (subst (λ multi. PlainRows P (line_rows_of (line_in (plain_with hs s) w columns line multi)
      (line_shown number (map plain_label (one_line line labels)) cells [])) y)
      (sym (filter_plain (is_multi_line line) (λ label. refl) labels))
      (plain_line_rows_of w columns (one_line line labels) (multi_line line labels) line number cells pieces
      (λ p. all_filter HasCleanParts (is_one_line line) labels (h p))
      (λ p. all_filter HasCleanParts (is_multi_line line) labels (h p)) j))

  -- ---- snippets

  plain_break_start : (w : ℕ) → PlainRow P (break_start (plain_with hs s) w) (break_start s w)
  plain_break_start w =
      plain_cons P (plain_blank P s (w - 1))
      (plain_run_row (codes "..." ++ s.theme.characters.vbar ∷ [])
      (λ p. clean_append (codes "...") (s.theme.characters.vbar ∷ []) refl
      (clean_cons s.theme.characters.vbar [] (clean p).vbar refl)))

  plain_break : (w : ℕ) (labels : List DrawnLabel) → PlainRow P (break_row (plain_with hs s) w (map plain_label labels))
      (break_row s w labels)
  plain_break w labels =
      plain_append P (break_start (plain_with hs s) w) (break_start s w)
      (break_gutter s (map plain_label labels)) (break_gutter s labels)
      (plain_break_start w) (plain_break_gutter P s clean labels)

  rows_if : (b : Bool) {xs ys us vs : List Row} → PlainRows P xs ys → PlainRows P us vs
      → PlainRows P (if b then xs else us) (if b then ys else vs)
  rows_if true h k = h
  rows_if false h k = k

  plain_line_or_break : (gap out : Bool) (w columns : ℕ) (labels : List DrawnLabel) (line : Line) (number : ℕ)
      (cells : List Cell) (pieces : List Highlight) →
      (P → AllByRecursion HasCleanParts labels) → (P → AreCleanCells cells) →
      PlainRows P (line_or_break gap out
      (snippet_context (plain_with hs s) w columns (map plain_label labels) (λ _. cells)) line number [])
      (line_or_break gap out (snippet_context s w columns labels (λ _. cells)) line number pieces)
  plain_line_or_break gap out w columns labels line number cells pieces h j =
      let break : PlainRow P (break_row (plain_with hs s) w (multi_line line (map plain_label labels)))
      (break_row s w (multi_line line labels)) =
      subst (λ multi. PlainRow P (break_row (plain_with hs s) w multi) (break_row s w (multi_line line labels)))
      (sym (filter_plain (is_multi_line line) (λ label. refl) labels)) (plain_break w (multi_line line labels)) in
      rows_if out (rows_if gap (rows_nil P) (rows_cons P break (rows_nil P)))
      (plain_line_rows w columns labels line number cells pieces h j)

  plain_lines : (out : ℕ → Line → Bool) (gap : Bool) (w columns : ℕ) (labels : List DrawnLabel) (source : List ℕ)
      (number : ℕ) (pieces : List (List Highlight)) (lines : List Line) →
      (P → AllByRecursion HasCleanParts labels) → (P → IsClean source) →
      PlainRows P (rows_of_lines out gap (snippet_context (plain_with hs s) w columns (map plain_label labels)
      (cells_of (plain_with hs s) source)) number [] lines)
      (rows_of_lines out gap (snippet_context s w columns labels (cells_of s source)) number pieces lines)
  plain_lines out gap w columns labels source number pieces [] h k = rows_nil P
  plain_lines out gap w columns labels source number pieces (line ∷ lines) h k =
      rows_append P (line_or_break gap (out number line)
      (snippet_context (plain_with hs s) w columns (map plain_label labels) (cells_of s source)) line number [])
      (line_or_break gap (out number line) (snippet_context s w columns labels (cells_of s source)) line number
      (first_of pieces))
      (rows_of_lines out (out number line) (snippet_context (plain_with hs s) w columns (map plain_label labels)
      (cells_of (plain_with hs s) source)) (number + 1) [] lines)
      (rows_of_lines out (out number line) (snippet_context s w columns labels (cells_of s source)) (number + 1)
      (drop 1 pieces) lines)
      (plain_line_or_break gap (out number line) w columns labels line number (cells_of s source line) (first_of pieces)
      h (λ p.
      let text = slice_range source line.start line.text_end in
      clean_cells s.width s.layout.tab_width false line.start 0 (characters text)
      (clean_characters text (clean_range source line.start line.text_end (k p)))))
      (plain_lines out (out number line) w columns labels source (number + 1) (drop 1 pieces) lines h k)

  plain_body : (label_extents : List LabelExtent) (labels : List DrawnLabel) (source : List ℕ) (read : Contents)
      (pieces : List (List Highlight)) → (P → AllByRecursion HasCleanParts labels) → (P → IsClean source) →
      PlainRows P (body_rows (plain_with hs s) label_extents (map plain_label labels) source read [])
      (body_rows s label_extents labels source read pieces)
  plain_body label_extents labels source read pieces h k =
      let lines = lines_of_contents read in
      subst (λ columns. PlainRows P (rows_of_lines (left_out s read.line lines label_extents) false
      (snippet_context (plain_with hs s) (number_width read) columns (map plain_label labels)
      (cells_of (plain_with hs s) source)) (read.line + 1) [] lines)
      (body_rows s label_extents labels source read pieces)) (sym (gutter_plain labels lines))
      (plain_lines (left_out s read.line lines label_extents) false (number_width read) (gutter_columns labels lines)
      labels
      source (read.line + 1) pieces lines h k)

  plain_snippet : (label_extents : List LabelExtent) (source : Source) (labels : List Label) (group : Span)
      (pieces : List (List Highlight)) → (P → IsCleanSource source) → (P → AllByRecursion IsCleanLabel labels) →
      PlainRows P (snippet (plain_with hs s) label_extents source labels group [])
      (snippet s label_extents source labels group pieces)
  plain_snippet label_extents source labels group pieces h k =
      let n = length source.bytes in
      let read = contents s.layout.context_lines source group in
      let ends : Bool = s.layout.end_labels && some_shows_end s.layout.context_lines n labels in
      let drawn = drawn_labels s n labels in
      let body : PlainRows P (body_rows (plain_with hs s) label_extents (drawn_labels (plain_with hs s) n labels)
      source.bytes
      read []) (body_rows s label_extents drawn source.bytes read pieces) =
      subst (λ ls. PlainRows P (body_rows (plain_with hs s) label_extents ls source.bytes read [])
      (body_rows s label_extents drawn source.bytes read pieces))
      (sym (drawn_plain hs are_plain ends s.theme.styles.highlights n 0 labels))
      (plain_body label_extents drawn source.bytes read pieces (λ p. drawn_clean ends s.theme.styles.highlights n 0
      labels
      (k p))
      (λ p. (h p).bytes)) in
      rows_cons P (plain_top (number_width read) source.name (nat_lt 1 (length (lines_of_contents read)))
      (place_of source group labels) (λ p. (h p).name))
      (rows_append P
      (body_rows (plain_with hs s) label_extents (drawn_labels (plain_with hs s) n labels) source.bytes read [])
      (body_rows s label_extents drawn source.bytes read pieces)
      (bottom_row (plain_with hs s) (number_width read) ∷ []) (bottom_row s (number_width read) ∷ []) body
      (rows_cons P (plain_bottom (number_width read)) (rows_nil P)))

  pub plain_all : (label_extents : List LabelExtent) (source : Source) (labels : List Label)
      (pieces : List (List (List Highlight))) (groups : List Span) → (P → IsCleanSource source)
      → (P → AllByRecursion IsCleanLabel labels) →
      PlainRows P (all_snippets (plain_with hs s) label_extents source labels [] groups)
      (all_snippets s label_extents source labels pieces groups)
  plain_all label_extents source labels pieces [] h k = rows_nil P
  plain_all label_extents source labels pieces (group ∷ groups) h k =
      rows_append P (snippet (plain_with hs s) label_extents source labels group [])
      (snippet s label_extents source labels group (first_of pieces))
      (all_snippets (plain_with hs s) label_extents source labels [] groups)
      (all_snippets s label_extents source labels (drop 1 pieces) groups)
      (plain_snippet label_extents source labels group (first_of pieces) h k)
      (plain_all label_extents source labels (drop 1 pieces) groups h k)

  -- ---- a refused label

  none_clean : (text : Option (List ℕ)) → IfSome text IsCleanText → IsClean (text_or_none text)
  none_clean None h = refl
  none_clean (Some text) h = h

  pub plain_refused : (refused : Refusal) → (P → IsCleanRefusal refused)
      → PlainRow P (refused_row (plain_with hs s) refused) (refused_row s refused)
  plain_refused refused h =
      plain_cons P (plain_styled P s.width plain (codes "  [") (λ p. refl))
      (plain_cons P
      (plain_styled P s.width s.theme.styles.error (codes "Failed to read contents for label") (λ p. refl))
      (plain_cons P (plain_styled P s.width plain (codes " `") (λ p. refl))
      (plain_cons P (plain_styled P s.width s.theme.styles.link (text_or_none refused.label.text)
      (λ p. none_clean refused.label.text (h p).label))
      (plain_cons P (plain_styled P s.width plain (codes "` (offset: ") (λ p. refl))
      (plain_cons P (plain_styled P s.width s.theme.styles.link (decimal refused.label.span.offset)
      (λ p. clean_decimal refused.label.span.offset))
      (plain_cons P (plain_styled P s.width plain (codes ", length: ") (λ p. refl))
      (plain_cons P (plain_styled P s.width s.theme.styles.link (decimal refused.label.span.len)
      (λ p. clean_decimal refused.label.span.len))
      (plain_cons P (plain_styled P s.width plain (codes "): ") (λ p. refl))
      (plain_cons P (plain_styled P s.width s.theme.styles.warning refused.name (λ p. (h p).name))
      (plain_run_row (codes "]") (λ p. refl)))))))))))

  refused_if : (b : Bool) (x y : Option Refusal) → IfSome x IsCleanRefusal → IfSome y IsCleanRefusal
      → IfSome (if b then x else y) IsCleanRefusal
  refused_if true x y h k = h
  refused_if false x y h k = k

  pub refusal_clean : (bytes : List ℕ) (fails : List Bool) (labels : List Label) → AllByRecursion IsCleanLabel labels
      → IfSome (first_refusal bytes fails labels) IsCleanRefusal
  refusal_clean bytes fails [] h = tt
  refusal_clean bytes fails (label ∷ labels) h =
      let failed : Refusal = record { label = label; name = codes "IoError" } in
      let outside : Refusal = record { label = label; name = codes "OutOfBounds" } in
      refused_if (next_answer fails) (Some failed) (if is_in_bounds bytes label.span then
      first_refusal bytes (drop 1 fails) labels else Some outside)
      (record { label = h.0; name = refl })
      (refused_if (is_in_bounds bytes label.span) (first_refusal bytes (drop 1 fails) labels) (Some outside)
      (refusal_clean bytes (drop 1 fails) labels h.1) (record { label = h.0; name = refl }))
