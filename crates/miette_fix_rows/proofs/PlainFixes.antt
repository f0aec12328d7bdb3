-- The rows of a fix in their styles, and the same rows in plain ones.
use Rattle.std.proofs.Common.{◌≡◌, ℕ, ◌+◌, ◌-◌, Bool, true, false, if◌then◌else◌, List, [], ◌∷◌, ◌++◌, map, length}
use Rattle.std.proofs.Common.{replicate, decimal, codes, Option, Some, None, IfSome, refl, sym, ap, ◌∙◌, subst}
use Rattle.std.specs.List.{AllByRecursion, filter, prefix_len}
use Rattle.std.specs.Option.{option_map}
use Rattle.miette_columns.specs.rules.Cells.{Cell, characters}
use Rattle.miette_fixes.specs.declared.error.FixError.{FixError}
use Rattle.miette_fixes.specs.declared.error.FixError.TheVariants.{OutOfBounds, Overlap, Memory}
use Rattle.miette_fixes.specs.rules.Applying.{by_offset, edits_error}
use Rattle.miette_fixes.specs.rules.Edits.{Replacement}
use Rattle.miette_fix_rows.specs.rules.DiffFrames.{DiffFrame, DiffLine, DiffPosition, added, frames_of, kept, removed}
use Rattle.miette_fix_rows.specs.rules.DiffRows.{ChangedLine, added_beside, added_line, before_some}
use Rattle.miette_fix_rows.specs.rules.DiffRows.{changed_cut, changed_rows, cut_beside, pair_reach, removed_beside}
use Rattle.miette_fix_rows.specs.rules.DiffRows.{diff_context, error_name, fix_rows, frame_rows, frame_width, kept_row}
use Rattle.miette_fix_rows.specs.rules.DiffRows.{edit_underline_row, past, place_at, refused_fix_row, removed_line}
use Rattle.miette_fix_rows.specs.rules.DiffRows.{row_if_some}
use Rattle.miette_fix_rows.specs.rules.DiffRows.{rows_of_frames, rows_of_diff_line, rows_of_diff_lines, fix_rows_unless}
use Rattle.miette_fix_rows.specs.rules.DiffRows.{sign_start}
use Rattle.miette_fix_rows.specs.rules.DiffRows.{changed_text_row}
use Rattle.miette_fix_rows.specs.rules.DiffTexts.{DiffPiece, edit_underlines, has_bytes, line_cells, line_ends}
use Rattle.miette_fix_rows.specs.rules.DiffTexts.{measured_line, look_alike, diff_pieces, part_in, parts_in, pieces}
use Rattle.miette_fix_rows.specs.rules.DiffTexts.{sign_runs}
use Rattle.miette_fix_rows.specs.rules.DiffTexts.{without_terminator}
use Rattle.miette_fix_rows.specs.rules.Hunks.{diff}
use Rattle.miette_labels.specs.rules.Answers.{Highlight}
use Rattle.miette_style.specs.rules.Rows.{Row, Run}
use Rattle.miette_protocol.specs.rules.Reading.{Source, Span}
use Rattle.miette_snippet_rules.specs.rules.CutLines.{LinePart, cell_bytes, cut_line, cut_runs, dots, dots_width}
use Rattle.miette_snippet_rules.specs.rules.CutLines.{pieces_within}
use Rattle.miette_snippet_rules.specs.rules.CutLines.{row_underlines, shown_runs}
use Rattle.miette_snippet_rules.specs.rules.Frames.{bottom_row, number_start, other_start}
use Rattle.miette_snippet_rules.specs.rules.Underlines.{Underline, marks}
use Rattle.miette_snippet_rules.specs.rules.PrintedCells.{cells_beyond, line_runs}
use Rattle.miette_snippet_rules.specs.rules.SnippetSettings.{SnippetSettings}
use Rattle.miette_lines.specs.rules.Lines.{is_text}
use Rattle.miette_style.specs.declared.style.Style.{Style}
use Rattle.miette_style.specs.rules.Styles.{plain}
use Rattle.miette_style.specs.rules.Themes.{Styles, Theme}
use Rattle.miette_snippet_laws.specs.laws.Clean.{AreCleanDrawings, IsClean, IsCleanCode, IsCleanSource}
use Rattle.miette_snippet_laws.specs.laws.PlainStyles.{AreAllPlain, ArePlain, IsPlainRow, restyled_snippets}
use Rattle.miette_snippet_laws.proofs.PlainLabels.{filter_plain, marks_plain}
use Rattle.miette_snippet_laws.proofs.CleanTexts.{AreCleanCells, clean_append, clean_cells, clean_characters}
use Rattle.miette_snippet_laws.proofs.CleanTexts.{clean_cons}
use Rattle.miette_snippet_laws.proofs.CleanTexts.{clean_copies, clean_decimal, clean_replicate, clean_take}
use Rattle.miette_snippet_laws.proofs.PlainCuts.{IsCleanStretch, cut_clean, cut_line_by_clean, plain_dots}
use Rattle.miette_snippet_laws.proofs.PlainCuts.{plain_shown, shown_marks_plain}
use Rattle.miette_snippet_laws.proofs.PlainFrames.{plain_with, plain_bottom, plain_number_start, plain_other_start}
use Rattle.miette_snippet_laws.proofs.PlainFrames.{plain_top, plain_run_row}
use Rattle.miette_snippet_laws.proofs.PlainRows.{PlainRow, PlainRows, all_append, plain_label, plain_mark, plain_append}
use Rattle.miette_snippet_laws.proofs.PlainRows.{plain_blank, plain_cons, plain_nil, plain_styled, rows_append}
use Rattle.miette_snippet_laws.proofs.PlainRows.{rows_cons}
use Rattle.miette_snippet_laws.proofs.PlainRows.{rows_nil}
use Rattle.miette_snippet_laws.proofs.PlainStyles.{are_plain_styles, plain_styles}
use Rattle.miette_fix_rows.proofs.CleanLines.{AreCleanEdits, AreCleanShown, IsCleanFrame, frames_clean}

-- ---- pieces in plain

abbrev ArePlainPieces : List Highlight → Type 0
ArePlainPieces hs = AllByRecursion (λ (h : Highlight). h.style ≡ plain) hs

either_is_plain : (b : Bool) → (if b then plain else plain) ≡ plain
either_is_plain true = refl
either_is_plain false = refl

painted_are_plain : (ps : List DiffPiece)
    → ArePlainPieces (map (λ (p : DiffPiece). record { bytes = p.bytes; style = if p.changed then plain else plain })
    ps)
painted_are_plain [] = tt
painted_are_plain (p ∷ ps) = (either_is_plain p.changed, painted_are_plain ps)

within_are_plain : (before bytes : ℕ) (hs : List Highlight) → ArePlainPieces hs
    → ArePlainPieces (pieces_within before bytes hs)
within_are_plain before bytes [] h = tt
within_are_plain before bytes (p ∷ hs) h =
    (h.0, within_are_plain (before - p.bytes) (bytes - (p.bytes - before)) hs h.1)

line_is_plain : (hs : List Highlight) (cells : List Cell) → ArePlainPieces hs → IsPlainRow (line_runs hs cells)
line_is_plain [] cells h = (refl, tt)
line_is_plain (p ∷ hs) cells h = (h.0, line_is_plain hs (cells_beyond p.bytes cells) h.1)

row_if : (b : Bool) (x y : Row) → IsPlainRow x → IsPlainRow y → IsPlainRow (if b then x else y)
row_if true x y h k = h
row_if false x y h k = k

cut_is_plain : (run : Run) (hs : List Highlight) (before : ℕ) (cut : List LinePart) → run.style ≡ plain
    → ArePlainPieces hs → IsPlainRow (cut_runs run hs before cut)
cut_is_plain run hs before [] d h = tt
cut_is_plain run hs before (s ∷ later) d h =
    let own : List Highlight = pieces_within before (cell_bytes s.cells) hs in
    let first : Row = if s.shown then line_runs own s.cells else run ∷ [] in
    all_append (λ (r : Run). r.style ≡ plain) first (cut_runs run hs (before + cell_bytes s.cells) later)
    (row_if s.shown (line_runs own s.cells) (run ∷ [])
    (line_is_plain own s.cells (within_are_plain before (cell_bytes s.cells) hs h)) (d, tt))
    (cut_is_plain run hs (before + cell_bytes s.cells) later d h)

shown_is_plain : (run : Run) (cut : Option (List LinePart)) (hs : List Highlight) (cells : List Cell)
    → run.style ≡ plain → ArePlainPieces hs → IsPlainRow (shown_runs run cut hs cells)
shown_is_plain run None hs cells d h = line_is_plain hs cells h
shown_is_plain run (Some cut) hs cells d h = cut_is_plain run hs 0 cut d h

-- ---- clean lines

text_clean : (line : List ℕ) → IsClean line → IsClean (without_terminator line)
text_clean line h = clean_take (prefix_len is_text line) line h

cells_clean : (s : SnippetSettings) (start : ℕ) (line : List ℕ) → IsClean line → AreCleanCells (line_cells s start line)
cells_clean s start line h =
    clean_cells s.width s.layout.tab_width false start 0 (characters (without_terminator line))
    (clean_characters (without_terminator line) (text_clean line h))

-- ---- marks in plain

parts_plain : (start bytes : ℕ) (style : Style) (spans : List Span)
    → map (part_in start bytes plain) spans ≡ map plain_label (map (part_in start bytes style) spans)
parts_plain start bytes style [] = refl
parts_plain start bytes style (span ∷ spans) =
    ap (λ ps. part_in start bytes plain span ∷ ps) (parts_plain start bytes style spans)

edits_plain : (s : SnippetSettings) (start : ℕ) (line : List ℕ) (style : Style) (spans : List Span)
    → edit_underlines s start line plain spans ≡ map plain_mark (edit_underlines s start line style spans)
edits_plain s start line style spans =
    ap (marks (measured_line s start line)) (ap (filter has_bytes) (parts_plain start (length line) style spans)
    ∙ filter_plain has_bytes (λ label. refl) (map (part_in start (length line) style) spans))
    ∙ marks_plain (measured_line s start line) (parts_in start (length line) style spans)

abbrev in_plain : ChangedLine → ChangedLine
in_plain line = record line { style = plain }

module _ (P : Type 0) where
  -- rows for rows where something holds of both
  rows_if : (b : Bool) {xs ys : List Row} → PlainRows P xs ys
      → PlainRows P (if b then xs else []) (if b then ys else [])
  rows_if true h = h
  rows_if false h = rows_nil P

  plain_pieces : (t : Theme) (hs : List Style) (cut : Option (List LinePart)) (plains pieces : List Highlight)
      (cells : List Cell) → ArePlainPieces plains → (P → AreCleanCells cells)
      → (P → IfSome cut (AllByRecursion IsCleanStretch)) →
      PlainRow P (shown_runs (dots (record t { styles = plain_styles hs })) cut plains cells)
      (shown_runs (dots t) cut pieces cells)
  plain_pieces t hs cut plains pieces cells h k j =
      let run_in_plain : Run = dots (record t { styles = plain_styles hs }) in
      let own = plain_shown P run_in_plain (dots t) cut pieces cells (plain_dots P t (plain_styles hs) refl) k j in
      let other = plain_shown P run_in_plain run_in_plain cut plains cells
      (plain_dots P (record t { styles = plain_styles hs }) (plain_styles hs) refl) k j in record {
        plain = shown_is_plain run_in_plain cut plains cells refl h;
        same = sym other.same ∙ own.same;
        clean = own.clean;
      }

  plain_signs : (s : SnippetSettings) (sign reached : ℕ) (ms : List Underline) → IsCleanCode sign →
      PlainRow P (sign_runs s sign reached (map plain_mark ms)) (sign_runs s sign reached ms)
  plain_signs s sign reached [] h = plain_nil P
  plain_signs s sign reached (m ∷ ms) h =
      plain_cons P (plain_blank P s (m.from - reached))
      (plain_cons P (record {
        plain = refl;
        same = refl;
        clean = λ p. clean_copies (m.until - m.from) (s.width sign) sign h;
      }) (plain_signs s sign m.until ms h))

  plain_before : (s : SnippetSettings) (sign : ℕ) (front other : Row) (ms : List Underline) → IsCleanCode sign
      → PlainRow P front other →
      PlainRows P (before_some front (row_if_some (sign_runs s sign 0 (map plain_mark ms))))
      (before_some other (row_if_some (sign_runs s sign 0 ms)))
  plain_before s sign front other [] h k = rows_nil P
  plain_before s sign front other (m ∷ ms) h k =
      rows_cons P (plain_append P front other (sign_runs s sign 0 (map plain_mark (m ∷ ms)))
      (sign_runs s sign 0 (m ∷ ms)) k (plain_signs s sign 0 (m ∷ ms) h)) (rows_nil P)

  module _ (s : SnippetSettings) (hs : List Style) (are_plain : AreAllPlain hs)
      (clean : P → AreCleanDrawings s.theme.characters) where
    -- ---- a line

    plain_start : (w : ℕ) (line : ChangedLine) → IsCleanCode line.sign
        → PlainRow P (sign_start (plain_with hs s) w (in_plain line)) (sign_start s w line)
    plain_start w line h =
        let number = replicate (w - length (decimal line.number)) 32 ++ decimal line.number in
        plain_cons P (plain_blank P s 1)
        (plain_cons P (plain_styled P s.width s.theme.styles.linum number
        (λ p. clean_append (replicate (w - length (decimal line.number)) 32) (decimal line.number)
        (clean_replicate (w - length (decimal line.number)) 32 refl) (clean_decimal line.number)))
        (plain_cons P (plain_blank P s 1)
        (plain_cons P (plain_styled P s.width line.style (line.sign ∷ []) (λ p. clean_cons line.sign [] h refl))
        (plain_cons P (plain_blank P s 1) (plain_nil P)))))

    -- a line is cut the same, whatever its style and that of the one that goes with it
    same_cut : (limit : Option ℕ) (line : ChangedLine) (other : Option ChangedLine)
        → cut_beside (plain_with hs s) limit (in_plain line) (option_map in_plain other) ≡ cut_beside s limit line other
    same_cut None line other = refl
    same_cut (Some limit) line None = refl
    same_cut (Some limit) line (Some other) = refl

    beside_clean : (limit : Option ℕ) (line : ChangedLine) (other : Option ChangedLine)
        → AreCleanCells (line_cells s line.start line.text)
        → IfSome (cut_beside s limit line other) (AllByRecursion IsCleanStretch)
    beside_clean None line other h = tt
    beside_clean (Some limit) line other h =
        cut_line_by_clean (dots_width s.theme.characters) limit (pair_reach s limit line other)
        (line_ends s line.start line.text line.spans) (line_cells s line.start line.text) h

    plain_text : (w : ℕ) (line : ChangedLine) (other : Option ChangedLine) → IsCleanCode line.sign
        → (P → IsClean line.text)
        → PlainRow P (changed_text_row (plain_with hs s) w (in_plain line) (option_map in_plain other))
        (changed_text_row s w line other)
    plain_text w line other h k =
        let cells = line_cells s line.start line.text in
        let cut = changed_cut s line other in
        let front = sign_start (plain_with hs s) w (in_plain line) in
        subst (λ c. PlainRow P
        (front ++ shown_runs (dots (plain_with hs s).theme) c (pieces plain line.spans cells) cells)
        (changed_text_row s w line other)) (sym (same_cut s.layout.line_columns line other))
        (plain_append P front (sign_start s w line)
        (shown_runs (dots (plain_with hs s).theme) cut (pieces plain line.spans cells) cells)
        (shown_runs (dots s.theme) cut (pieces line.style line.spans cells) cells)
        (plain_start w line h)
        (plain_pieces s.theme hs cut (pieces plain line.spans cells) (pieces line.style line.spans cells) cells
        (painted_are_plain (diff_pieces line.spans cells)) (λ p. cells_clean s line.start line.text (k p))
        (λ p. beside_clean s.layout.line_columns line other (cells_clean s line.start line.text (k p)))))

    plain_marks : (w : ℕ) (line : ChangedLine) (other : Option ChangedLine) → IsCleanCode line.sign
        → PlainRows P (edit_underline_row (plain_with hs s) w (in_plain line) (option_map in_plain other))
        (edit_underline_row s w line other)
    plain_marks w line other h =
        let many = dots_width s.theme.characters in
        let cut = changed_cut s line other in
        let own = edit_underlines s line.start line.text line.style line.spans in
        let marks_in_plain = edit_underlines s line.start line.text plain line.spans in
        let same : row_underlines many (changed_cut (plain_with hs s) (in_plain line) (option_map in_plain other))
        marks_in_plain
        ≡ map plain_mark (row_underlines many cut own) =
        ap (λ c. row_underlines many c marks_in_plain) (same_cut s.layout.line_columns line other)
        ∙ ap (row_underlines many cut) (edits_plain s line.start line.text line.style line.spans)
        ∙ shown_marks_plain many cut own in
        subst (λ ms. PlainRows P
        (before_some (other_start (plain_with hs s) w) (row_if_some (sign_runs s line.sign 0 ms)))
        (edit_underline_row s w line other)) (sym same)
        (plain_before s line.sign (other_start (plain_with hs s) w) (other_start s w) (row_underlines many cut own) h
        (plain_other_start P s hs are_plain clean w))

    plain_changed : (w : ℕ) (line : ChangedLine) (other : Option ChangedLine) → IsCleanCode line.sign
        → (P → IsClean line.text) →
        PlainRows P (changed_rows (plain_with hs s) w (in_plain line) (option_map in_plain other))
        (changed_rows s w line other)
    plain_changed w line None h k = rows_cons P (plain_text w line None h k)
        (rows_if (look_alike s line.text None) (plain_marks w line None h))
    plain_changed w line (Some other) h k = rows_cons P (plain_text w line (Some other) h k)
        (rows_if (look_alike s line.text (Some other.text)) (plain_marks w line (Some other) h))

    plain_kept : (w : ℕ) (at : DiffPosition) (text : List ℕ) → (P → IsClean text)
        → PlainRow P (kept_row (plain_with hs s) w at text) (kept_row s w at text)
    plain_kept w at text h =
        let cells = line_cells s at.old_offset text in
        let many = dots_width s.theme.characters in
        let cut = cut_line many s.layout.line_columns [] cells in
        let run_in_plain = dots (plain_with hs s).theme in
        plain_append P (number_start (plain_with hs s) w (at.old_line + 1)) (number_start s w (at.old_line + 1))
        (shown_runs run_in_plain cut [] cells) (shown_runs (dots s.theme) cut [] cells)
        (plain_number_start P s hs are_plain clean w (at.old_line + 1))
        (plain_shown P run_in_plain (dots s.theme) cut [] cells (plain_dots P s.theme (plain_styles hs) refl)
        (λ p. cells_clean s at.old_offset text (h p))
        (λ p. cut_clean many s.layout.line_columns [] cells (cells_clean s at.old_offset text (h p))))

    -- ---- a frame

    module _ (edits : List Replacement) (frame : DiffFrame) where
      plain_line : (at : DiffPosition) (line : DiffLine) → (P → AreCleanShown (line ∷ []))
          → PlainRows P (rows_of_diff_line (diff_context (plain_with hs s) edits frame) at line)
          (rows_of_diff_line (diff_context s edits frame) at line)
      plain_line at (kept text) h = rows_cons P (plain_kept (frame_width frame) at text (λ p. (h p).0)) (rows_nil P)
      plain_line at (removed text None) h =
          plain_changed (frame_width frame) (removed_line (diff_context s edits frame) at text) None refl (λ p. (h p).0)
      plain_line at (removed text (Some other)) h =
          plain_changed (frame_width frame) (removed_line (diff_context s edits frame) at text)
          (Some (added_beside (diff_context s edits frame) at other)) refl (λ p. (h p).0)
      plain_line at (added text None) h =
          plain_changed (frame_width frame) (added_line (diff_context s edits frame) at text) None refl (λ p. (h p).0)
      plain_line at (added text (Some other)) h =
          plain_changed (frame_width frame) (added_line (diff_context s edits frame) at text)
          (Some (removed_beside (diff_context s edits frame) at other)) refl (λ p. (h p).0)

      plain_lines : (at : DiffPosition) (lines : List DiffLine) → (P → AreCleanShown lines)
          → PlainRows P (rows_of_diff_lines (diff_context (plain_with hs s) edits frame) at lines)
          (rows_of_diff_lines (diff_context s edits frame) at lines)
      plain_lines at [] h = rows_nil P
      plain_lines at (line ∷ lines) h =
          rows_append P (rows_of_diff_line (diff_context (plain_with hs s) edits frame) at line)
          (rows_of_diff_line (diff_context s edits frame) at line)
          (rows_of_diff_lines (diff_context (plain_with hs s) edits frame) (past at line) lines)
          (rows_of_diff_lines (diff_context s edits frame) (past at line) lines)
          (plain_line at line (λ p. ((h p).0, tt)))
          (plain_lines (past at line) lines (λ p. (h p).1))

      plain_frame : (source : Source) → (P → IsCleanSource source) → (P → IsCleanFrame frame)
          → PlainRows P (frame_rows (plain_with hs s) source edits frame) (frame_rows s source edits frame)
      plain_frame source h k =
          rows_cons P (plain_top P s hs are_plain clean (frame_width frame) source.name true
          (Some (place_at source.bytes frame.place)) (λ p. (h p).name))
          (rows_append P (rows_of_diff_lines (diff_context (plain_with hs s) edits frame) frame.at frame.lines)
          (rows_of_diff_lines (diff_context s edits frame) frame.at frame.lines)
          (bottom_row (plain_with hs s) (frame_width frame) ∷ []) (bottom_row s (frame_width frame) ∷ [])
          (plain_lines frame.at frame.lines k)
          (rows_cons P (plain_bottom P s hs are_plain clean (frame_width frame)) (rows_nil P)))

    plain_frames : (source : Source) (edits : List Replacement) (frames : List DiffFrame) → (P → IsCleanSource source)
        → (P → AllByRecursion IsCleanFrame frames)
        → PlainRows P (rows_of_frames (plain_with hs s) source edits frames) (rows_of_frames s source edits frames)
    plain_frames source edits [] h k = rows_nil P
    plain_frames source edits (frame ∷ frames) h k =
        rows_append P (frame_rows (plain_with hs s) source edits frame) (frame_rows s source edits frame)
        (rows_of_frames (plain_with hs s) source edits frames) (rows_of_frames s source edits frames)
        (plain_frame edits frame source h (λ p. (k p).0)) (plain_frames source edits frames h (λ p. (k p).1))

    -- ---- a fix

    plain_refused : (name : List ℕ) → IsClean name
        → PlainRow P (refused_fix_row (plain_with hs s) name) (refused_fix_row s name)
    plain_refused name h =
        plain_cons P (plain_styled P s.width plain (codes "  [") (λ p. refl))
        (plain_cons P (plain_styled P s.width s.theme.styles.error (codes "Failed to apply fix") (λ p. refl))
        (plain_cons P (plain_styled P s.width plain (codes ": ") (λ p. refl))
        (plain_cons P (plain_styled P s.width s.theme.styles.warning name (λ p. h))
        (plain_run_row P s hs are_plain clean (codes "]") (λ p. refl)))))

    name_clean : (error : FixError) → IsClean (error_name error)
    name_clean (OutOfBounds edit) = refl
    name_clean (Overlap first second) = refl
    name_clean Memory = refl

    plain_unless : (source : Source) (edits : List Replacement) (refused : Option FixError) → (P → IsCleanSource source)
        → (P → AreCleanEdits edits)
        → PlainRows P (fix_rows_unless (plain_with hs s) source edits refused) (fix_rows_unless s source edits refused)
    plain_unless source edits (Some error) h k =
        rows_cons P (plain_refused (error_name error) (name_clean error)) (rows_nil P)
    plain_unless source edits None h k =
        plain_frames source (by_offset edits) (frames_of s.layout.context_lines (diff source.bytes edits)) h
        (λ p. frames_clean s.layout.context_lines source.bytes edits (h p).bytes (k p))

    plain_read : (fails : Bool) (source : Source) (edits : List Replacement) → (P → IsCleanSource source)
        → (P → AreCleanEdits edits) →
        PlainRows P (if fails then refused_fix_row (plain_with hs s) (codes "IoError") ∷ []
        else fix_rows_unless (plain_with hs s) source edits (edits_error (length source.bytes) edits))
        (if fails then refused_fix_row s (codes "IoError") ∷ []
        else fix_rows_unless s source edits (edits_error (length source.bytes) edits))
    plain_read true source edits h k = rows_cons P (plain_refused (codes "IoError") refl) (rows_nil P)
    plain_read false source edits h k = plain_unless source edits (edits_error (length source.bytes) edits) h k

    plain_fix_with : (source : Source) (fails : Bool) (edits : List Replacement) → (P → IsCleanSource source)
        → (P → AreCleanEdits edits)
        → PlainRows P (fix_rows (plain_with hs s) source fails edits) (fix_rows s source fails edits)
    plain_fix_with source fails [] h k = rows_nil P
    plain_fix_with source fails (edit ∷ edits) h k = plain_read fails source (edit ∷ edits) h k

-- the same in any plain styles
pub plain_fix : (P : Type 0) (s : SnippetSettings) (styles : Styles) → ArePlain styles
    → (P → AreCleanDrawings s.theme.characters) → (source : Source) (fails : Bool) (edits : List Replacement)
    → (P → IsCleanSource source) → (P → AreCleanEdits edits)
    → PlainRows P (fix_rows (restyled_snippets s styles) source fails edits) (fix_rows s source fails edits)
plain_fix P s styles are_plain clean source fails edits h k =
    subst (λ u. PlainRows P (fix_rows (restyled_snippets s u) source fails edits) (fix_rows s source fails edits))
    (sym (are_plain_styles styles are_plain))
    (plain_fix_with P s styles.highlights are_plain.highlights clean source fails edits h k)
