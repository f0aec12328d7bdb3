-- Lines that are cut, in plain styles: they are cut at the same places, and hold no escape that the whole line doesn't.
use Rattle.std.proofs.Common.{◌≡◌, ℕ, ◌+◌, ◌-◌, Bool, false, ltb, List, [], ◌∷◌, ◌++◌, map, Option, Some, None, IfSome}
use Rattle.std.proofs.Common.{if◌then◌else◌, refl, sym, ap, ◌∙◌, subst, append-nil}
use Rattle.std.specs.List.{AllByRecursion}
use Rattle.std.proofs.lemmas.List.{map-append}
use Rattle.miette_lines.specs.rules.Lines.{Line}
use Rattle.miette_labels.specs.rules.Answers.{Highlight}
use Rattle.miette_labels.specs.rules.Labels.{DrawnLabel, ends_on, starts_on}
use Rattle.miette_columns.specs.rules.Cells.{Cell}
use Rattle.miette_lines.proofs.Cases.{by_cases}
use Rattle.miette_style.specs.rules.Rows.{Run}
use Rattle.miette_style.specs.rules.Styles.{plain}
use Rattle.miette_style.specs.rules.Themes.{Styles, Theme}
use Rattle.miette_snippet_rules.specs.rules.LabelColumns.{pointer_ends, underline_ends, multi_line_ends}
use Rattle.miette_snippet_rules.specs.rules.CutLines.{LinePart, agree, cell_bytes, cut_by, cut_line, cut_line_by}
use Rattle.miette_snippet_rules.specs.rules.CutLines.{cut_runs, cut_to, dots}
use Rattle.miette_snippet_rules.specs.rules.CutLines.{has_room, is_part_shown, is_near, limit_of, prepend_part}
use Rattle.miette_snippet_rules.specs.rules.CutLines.{is_near_after, pieces_within, reach_of, row_underline}
use Rattle.miette_snippet_rules.specs.rules.CutLines.{row_underlines}
use Rattle.miette_snippet_rules.specs.rules.CutLines.{shown_runs, line_parts, with_short_parts}
use Rattle.miette_snippet_rules.specs.rules.Underlines.{Underline, MeasuredText}
use Rattle.miette_snippet_rules.specs.rules.PrintedCells.{cells_width, first_column, last_column, line_runs}
use Rattle.miette_snippet_rules.specs.rules.PrintedCells.{printed_cells}
use Rattle.miette_snippet_laws.specs.laws.Clean.{IsClean}
use Rattle.miette_snippet_laws.proofs.CleanTexts.{AreCleanCells, AreCleanPieces, clean_append, clean_first, clean_rest}
use Rattle.miette_snippet_laws.proofs.CleanTexts.{clean_cons, clean_line, line_same}
use Rattle.miette_snippet_laws.proofs.PlainRows.{plain_label, plain_mark, IsCleanMark, PlainRow, PlainRun, plain_nil}
use Rattle.miette_snippet_laws.proofs.PlainRows.{plain_cons, plain_append, plain_if}

-- ---- the same ends, the same stretches, the same columns

pub ends_plain : (ms : List Underline) → underline_ends (map plain_mark ms) ≡ underline_ends ms
ends_plain [] = refl
ends_plain (m ∷ ms) =
    ap (λ es. m.from ∷ pointer_ends m.label.parts m.pointer ++ (m.until - 1) ∷ es) (ends_plain ms)

pub spreads_plain : (line : Line) (text : MeasuredText) (labels : List DrawnLabel)
    → multi_line_ends line text (map plain_label labels) ≡ multi_line_ends line text labels
spreads_plain line text [] = refl
spreads_plain line text (label ∷ labels) =
    ap (λ more. (if starts_on line label then first_column text.cells text.text_end text.width label.start ∷ []
    else if ends_on line label then (last_column text.cells text.text_end text.width label.after - 1) ∷ []
    else []) ++ more) (spreads_plain line text labels)

moved_plain : (many : ℕ) (cut : List LinePart) (ms : List Underline) → map (row_underline many cut) (map plain_mark ms)
    ≡ map plain_mark (map (row_underline many cut) ms)
moved_plain many cut [] = refl
moved_plain many cut (m ∷ ms) = ap (λ r. plain_mark (row_underline many cut m) ∷ r) (moved_plain many cut ms)

pub shown_marks_plain : (many : ℕ) (cut : Option (List LinePart)) (ms : List Underline)
    → row_underlines many cut (map plain_mark ms) ≡ map plain_mark (row_underlines many cut ms)
shown_marks_plain many None ms = refl
shown_marks_plain many (Some cut) ms = moved_plain many cut ms

moved_clean : (many : ℕ) (cut : List LinePart) (ms : List Underline) → AllByRecursion IsCleanMark ms
    → AllByRecursion IsCleanMark (map (row_underline many cut) ms)
moved_clean many cut [] h = tt
moved_clean many cut (m ∷ ms) h = (h.0, moved_clean many cut ms h.1)

pub shown_clean : (many : ℕ) (cut : Option (List LinePart)) (ms : List Underline) → AllByRecursion IsCleanMark ms
    → AllByRecursion IsCleanMark (row_underlines many cut ms)
shown_clean many None ms h = h
shown_clean many (Some cut) ms h = moved_clean many cut ms h

-- ---- stretches without an escape

abbrev pub IsCleanStretch : LinePart → Type 0
IsCleanStretch s = AreCleanCells s.cells

codes_append : (a b : List Cell) → AreCleanCells a → AreCleanCells b → AreCleanCells (a ++ b)
codes_append a b h k =
    subst (λ (text : List ℕ). IsClean text) (sym (map-append (λ (c : Cell). c.code) a b))
    (clean_append (map (λ (c : Cell). c.code) a) (map (λ (c : Cell). c.code) b) h k)

onto_clean : (s : LinePart) (ss : List LinePart) → IsCleanStretch s → AllByRecursion IsCleanStretch ss
    → AllByRecursion IsCleanStretch (prepend_part s ss)
onto_clean s [] h k = (h, tt)
onto_clean s (next ∷ later) h k =
    by_cases {C = AllByRecursion IsCleanStretch (prepend_part s (next ∷ later))} (agree s.shown next.shown)
    (λ y. rw y (codes_append s.cells next.cells h k.0, k.1))
    (λ n. rw n (h, k))

stretches_clean : (near : Cell → Bool) (before : Bool) (cells : List Cell) → AreCleanCells cells
    → AllByRecursion IsCleanStretch (line_parts near before cells)
stretches_clean near before [] h = tt
stretches_clean near before (c ∷ cs) h =
    let codes : List ℕ = map (λ (c : Cell). c.code) cs in
    let here : Bool = is_near_after near before c in
    onto_clean (record { shown = here; cells = c ∷ [] }) (line_parts near here cs)
    (clean_cons c.code [] (clean_first c.code codes h) refl)
    (stretches_clean near here cs (clean_rest c.code codes h))

short_clean : (many : ℕ) (ss : List LinePart) → AllByRecursion IsCleanStretch ss
    → AllByRecursion IsCleanStretch (with_short_parts many ss)
short_clean many [] h = tt
short_clean many (s ∷ later) h =
    onto_clean (record { shown = is_part_shown many s; cells = s.cells }) (with_short_parts many later) h.0
    (short_clean many later h.1)

cut_to_clean : (limit many : ℕ) (all : List ℕ) (cells : List Cell) → AreCleanCells cells
    → AllByRecursion IsCleanStretch (cut_to limit many all cells)
cut_to_clean limit many [] cells h =
    short_clean many (line_parts (has_room limit many) false cells) (stretches_clean (has_room limit many) false cells
    h)
cut_to_clean limit many (e ∷ es) cells h =
    let near : Cell → Bool = is_near (reach_of limit many (e ∷ es) cells) (e ∷ es) in
    short_clean many (line_parts near false cells) (stretches_clean near false cells h)

pub cut_clean : (many : ℕ) (limit : Option ℕ) (all : List ℕ) (cells : List Cell) → AreCleanCells cells
    → IfSome (cut_line many limit all cells) (AllByRecursion IsCleanStretch)
cut_clean many None all cells h = tt
cut_clean many (Some limit) all cells h =
    by_cases {C = IfSome (cut_line many (Some limit) all cells) (AllByRecursion IsCleanStretch)}
    (ltb (limit_of limit) (cells_width 0 cells))
    (λ y. rw y (cut_to_clean (limit_of limit) many all cells h))
    (λ n. rw n tt)

cut_by_clean : (limit many reach : ℕ) (all : List ℕ) (cells : List Cell) → AreCleanCells cells
    → AllByRecursion IsCleanStretch (cut_by limit many reach all cells)
cut_by_clean limit many reach [] cells h = cut_to_clean limit many [] cells h
cut_by_clean limit many reach (e ∷ es) cells h =
    let near : Cell → Bool = is_near reach (e ∷ es) in
    short_clean many (line_parts near false cells) (stretches_clean near false cells h)

pub cut_line_by_clean : (many limit reach : ℕ) (all : List ℕ) (cells : List Cell) → AreCleanCells cells
    → IfSome (cut_line_by many limit reach all cells) (AllByRecursion IsCleanStretch)
cut_line_by_clean many limit reach all cells h =
    by_cases {C = IfSome (cut_line_by many limit reach all cells) (AllByRecursion IsCleanStretch)}
    (ltb (limit_of limit) (cells_width 0 cells))
    (λ y. rw y (cut_by_clean (limit_of limit) many reach all cells h))
    (λ n. rw n tt)

-- ---- the text of a line in plain

-- the dots hold no escape
dots_clean : (t : Theme) → AreCleanPieces (dots t).glyphs
dots_clean t =
    by_cases {C = AreCleanPieces (dots t).glyphs} (ltb t.characters.vbar 0x80) (λ y. rw y refl) (λ n. rw n refl)

module _ (P : Type 0) where
  plain_line : (pieces : List Highlight) (cells : List Cell) → (P → AreCleanCells cells)
      → PlainRow P (line_runs [] cells) (line_runs pieces cells)
  plain_line pieces cells h = record {
    plain = (refl, tt);
    same = append-nil (printed_cells cells)
        ∙ sym (line_same pieces cells);
    clean = λ p. clean_line pieces cells (h p);
  }

  pub plain_dots : (t : Theme) (styles : Styles) → styles.linum ≡ plain
      → PlainRun P (dots (record t { styles = styles })) (dots t)
  plain_dots t styles h = record { plain = h; same = refl; clean = λ p. dots_clean t }

  plain_cut : (run_in_plain run : Run) (pieces : List Highlight) (before : ℕ) (cut : List LinePart)
      → PlainRun P run_in_plain run → (P → AllByRecursion IsCleanStretch cut)
      → PlainRow P (cut_runs run_in_plain [] before cut) (cut_runs run pieces before cut)
  plain_cut run_in_plain run pieces before [] d h = plain_nil P
  plain_cut run_in_plain run pieces before (s ∷ later) d h =
      let own : List Highlight = pieces_within before (cell_bytes s.cells) pieces in
      plain_append P (if s.shown then line_runs [] s.cells else run_in_plain ∷ [])
      (if s.shown then line_runs own s.cells else run ∷ [])
      (cut_runs run_in_plain [] (before + cell_bytes s.cells) later)
      (cut_runs run pieces (before + cell_bytes s.cells) later)
      (plain_if P s.shown (plain_line own s.cells (λ p. (h p).0)) (plain_cons P d (plain_nil P)))
      (plain_cut run_in_plain run pieces (before + cell_bytes s.cells) later d (λ p. (h p).1))

  pub plain_shown : (run_in_plain run : Run) (cut : Option (List LinePart)) (pieces : List Highlight)
      (cells : List Cell)
      → PlainRun P run_in_plain run → (P → AreCleanCells cells) → (P → IfSome cut (AllByRecursion IsCleanStretch)) →
      PlainRow P (shown_runs run_in_plain cut [] cells) (shown_runs run cut pieces cells)
  plain_shown run_in_plain run None pieces cells d h k = plain_line pieces cells h
  plain_shown run_in_plain run (Some cut) pieces cells d h k = plain_cut run_in_plain run pieces 0 cut d k
