-- The rows of snippets turn plain, and hold no escape: from what the layer of snippets promises of them.
use Rattle.std.proofs.Common.{◌≡◌, ℕ, zero, suc, ◌%◌, List, [], ◌∷◌, ◌++◌, map, refl, sym}
use Rattle.std.proofs.Common.{ap, ap₂, ◌∙◌, Option, Some, None, IfSome, option_map, unwrap_or, drop, length, take}
use Rattle.std.specs.List.{AllByRecursion}
use Rattle.std.proofs.lemmas.List.{map-append}
use Rattle.miette_protocol.specs.views.Meaning.{Label}
use Rattle.miette_protocol.specs.rules.Reading.{Source}
use Rattle.miette_runs.specs.rules.Runs.{HaveNoEscape, print, printed_run, made_plain, Fragment}
use Rattle.miette_style.specs.rules.Styles.{plain}
use Rattle.miette_style.specs.rules.Escapes.{no_escape}
use Rattle.miette_labels.specs.rules.Answers as snippet_answers
use Rattle.miette_snippet_laws.specs.laws.Clean.{IsCleanLabel, IsCleanRow, IsCleanSource, AreCleanDrawings}
use Rattle.miette_snippet_laws.specs.laws.PlainStyles as row_laws
use Rattle.miette_snippet_laws.specs.laws.PlainStyles.{AreAllPlain, ArePlain, IsPlainRow, unhighlighted_answer}
use Rattle.miette_snippet_laws.proofs.PlainRows.{all_append}
use Rattle.miette_style.specs.declared.style.Style.{Style}
use Rattle.miette_tree.specs.rules.Diagnosis.{Diagnosis, Section}
use Rattle.miette_tree.specs.rules.DiagnosticParts.{given_labels}
use Rattle.miette_style.specs.rules.Themes.{Styles}
use Rattle.miette_snippet_rules.specs.rules.SnippetSettings as snippets
use Rattle.miette_snippet_rules.specs.rules.SnippetLayout.{end_settings, snippet_rows}
use Rattle.miette_style.specs.rules.Rows.{Glyph, Row, glyphs_of}
use Rattle.miette_graphical_rules.specs.rules.Answers.{DiagnosticAnswer, SourceAnswer, SourceAnswers, first_source}
use Rattle.miette_graphical_rules.specs.laws.Clean.{AreCleanLabels, AreCleanSettings, HaveNoEscapes, IsCleanMeaning}
use Rattle.miette_graphical_rules.specs.laws.Clean.{IsCleanSection}
use Rattle.miette_graphical_rules.specs.laws.PlainTexts.{AreSnippets, restyled, unhighlighted}
use Rattle.miette_graphical_rules.specs.rules.DiagnosticText.{line_feed, rows_text}
use Rattle.miette_graphical_rules.specs.rules.GraphicalSettings.{GraphicalSettings}
use Rattle.miette_graphical_rules.specs.rules.Snippets.{drawn_rows, rows_over, snippet_settings, run_text, runs_of_row}
use Rattle.miette_graphical_rules.specs.rules.Snippets.{shown_rows, source_rows}
use Rattle.miette_graphical_rules.specs.rules.Sources.{LabelledSource, after_labels, drawn_with, further_sources}
use Rattle.miette_graphical_rules.specs.rules.Sources.{sources_of, styles_after, rotated}
use Rattle.miette_graphical_rules.proofs.Unhighlighted.{first-unhighlighted-source, later-unhighlighted-sources}
use Rattle.miette_graphical_rules.proofs.RowTexts.{codes_of, rows-appended, run_codes}

-- the clauses of the laws of that layer
pub record LayoutLaws : Type 0 where
  pub same : (s : snippets.SnippetSettings) (styles : Styles) (source : Source) (labels : List Label)
      (answers : snippet_answers.Answers) → ArePlain styles →
      option_map (map glyphs_of) (snippet_rows (row_laws.restyled_snippets s styles) source labels
      (row_laws.unhighlighted_answer answers)) ≡ option_map (map glyphs_of) (snippet_rows s source labels answers)
  pub plain : (s : snippets.SnippetSettings) (styles : Styles) (source : Source) (labels : List Label)
      (answers : snippet_answers.Answers) → ArePlain styles →
      IfSome (snippet_rows (row_laws.restyled_snippets s styles) source labels (row_laws.unhighlighted_answer answers))
      (AllByRecursion IsPlainRow)
  pub clean : (s : snippets.SnippetSettings) (source : Source) (labels : List Label) (answers : snippet_answers.Answers)
      →
      AreCleanDrawings s.theme.characters → IsCleanSource source → AllByRecursion IsCleanLabel labels
      → IfSome (snippet_rows s source labels answers) (AllByRecursion IsCleanRow)

-- ---- what plain rows print

plain_print : (text : List ℕ) → printed_run plain text ≡ text
plain_print [] = refl
plain_print (c ∷ text) = refl

-- in plain, a row prints its characters
row_in_plain : (row : Row) → print (map made_plain (runs_of_row row)) ≡ codes_of (glyphs_of row)
row_in_plain [] = refl
row_in_plain (run ∷ row) = ap₂ (λ x y. x ++ y) (plain_print (run_text run) ∙ run_codes run) (row_in_plain row)
    ∙ sym (map-append (λ p. p.code) run.glyphs (glyphs_of row))

pub plain_row : (row : Row) → IsPlainRow row → print (runs_of_row row) ≡ codes_of (glyphs_of row)
plain_row [] h = refl
plain_row (run ∷ row) h =
    ap₂ (λ x y. x ++ y) (ap (λ style. printed_run style (run_text run)) h.0 ∙ plain_print (run_text run)
    ∙ run_codes run) (plain_row row h.1)
    ∙ sym (map-append (λ p. p.code) run.glyphs (glyphs_of row))

-- rows by their characters
abbrev pub text_of : List (List Glyph) → List ℕ
text_of [] = []
text_of (pieces ∷ more) = codes_of pieces ++ line_feed ++ text_of more

pub rows_in_plain : (rows : List Row) → rows_text (map (map made_plain) (map runs_of_row rows)) ≡ text_of
    (map glyphs_of rows)
rows_in_plain [] = refl
rows_in_plain (row ∷ rows) = ap₂ (λ x y. x ++ line_feed ++ y) (row_in_plain row) (rows_in_plain rows)

pub plain_rows : (rows : List Row) → AllByRecursion IsPlainRow rows → rows_text (map runs_of_row rows)
    ≡ text_of (map glyphs_of rows)
plain_rows [] h = refl
plain_rows (row ∷ rows) h = ap₂ (λ x y. x ++ line_feed ++ y) (plain_row row h.0) (plain_rows rows h.1)

abbrev shown_text : Option (List (List Glyph)) → List ℕ
shown_text rows = text_of (unwrap_or rows [])

shown_in_plain : (rows : Option (List Row)) → rows_text (map (map made_plain) (shown_rows rows))
    ≡ shown_text (option_map (map glyphs_of) rows)
shown_in_plain None = refl
shown_in_plain (Some rows) = rows_in_plain rows

plain_shown : (rows : Option (List Row)) → IfSome rows (AllByRecursion IsPlainRow) → rows_text (shown_rows rows)
    ≡ shown_text (option_map (map glyphs_of) rows)
plain_shown None h = refl
plain_shown (Some rows) h = plain_rows rows h

-- ---- rows without an escape

clean_row : (row : Row) → IsCleanRow row → HaveNoEscape (runs_of_row row)
clean_row [] h = tt
clean_row (run ∷ row) h = (ap no_escape (run_codes run) ∙ h.0, clean_row row h.1)

pub clean_rows : (rows : List Row) → AllByRecursion IsCleanRow rows → HaveNoEscapes (map runs_of_row rows)
clean_rows [] h = tt
clean_rows (row ∷ rows) h = (clean_row row h.0, clean_rows rows h.1)

clean_shown : (rows : Option (List Row)) → IfSome rows (AllByRecursion IsCleanRow) → HaveNoEscapes (shown_rows rows)
clean_shown None h = tt
clean_shown (Some rows) h = clean_rows rows h

-- ---- plain styles, whatever highlight comes next

dropped-plain : (k : ℕ) (styles : List Style) → AreAllPlain styles → AreAllPlain (drop k styles)
dropped-plain zero styles h = h
dropped-plain (suc k) [] h = tt
dropped-plain (suc k) (style ∷ styles) h = dropped-plain k styles h.1

taken-plain : (k : ℕ) (styles : List Style) → AreAllPlain styles → AreAllPlain (take k styles)
taken-plain zero styles h = tt
taken-plain (suc k) [] h = tt
taken-plain (suc k) (style ∷ styles) h = (h.0, taken-plain k styles h.1)

rotated-plain : (n : ℕ) (styles : List Style) → AreAllPlain styles → AreAllPlain (rotated n styles)
rotated-plain n [] h = tt
rotated-plain n (style ∷ styles) h =
    let k = n % length (style ∷ styles) in
    all_append (λ it. it ≡ plain) (drop k (style ∷ styles)) (take k (style ∷ styles))
    (dropped-plain k (style ∷ styles) h) (taken-plain k (style ∷ styles) h)

plain_after : (n : ℕ) (styles : Styles) → ArePlain styles → ArePlain (styles_after n styles)
plain_after n styles h = record {
  error = h.error;
  warning = h.warning;
  advice = h.advice;
  help = h.help;
  link = h.link;
  linum = h.linum;
  highlights = rotated-plain n styles.highlights h.highlights;
}

-- ---- sources without an escape

abbrev IsCleanOver : LabelledSource → Type 0
IsCleanOver it = IfSome it.source IsCleanSource × AllByRecursion IsCleanLabel it.labels

further-clean : (sections : List Section) → AllByRecursion IsCleanSection sections
    → AllByRecursion IsCleanOver (further_sources sections)
further-clean [] h = tt
further-clean (section ∷ more) h = (h.0, further-clean more h.1)

pub labels-clean : (labels : Option (List Label)) → AreCleanLabels labels
    → AllByRecursion IsCleanLabel (given_labels labels)
labels-clean None h = tt
labels-clean (Some ls) h = h

clean_over : LayoutLaws → (s : GraphicalSettings) (source : Option Source) (labels : List Label) (a : SourceAnswer) →
    AreCleanSettings s → IfSome source IsCleanSource → AllByRecursion IsCleanLabel labels
    → HaveNoEscapes (source_rows s source labels a)
clean_over laws s None labels a h k j = tt
clean_over laws s (Some source) labels a h k j =
    let l = end_settings (snippet_settings s) a.end_fails source labels in
    clean_shown (snippet_rows l source labels a) (laws.clean l source labels a h.0.drawings k j)

-- ---- rows one after the other

escapes-appended : (xs ys : List (List Fragment)) → HaveNoEscapes xs → HaveNoEscapes ys → HaveNoEscapes (xs ++ ys)
escapes-appended [] ys h k = k
escapes-appended (x ∷ xs) ys h k = (h.0, escapes-appended xs ys h.1 k)

-- ---- the rows over one source, and over several

source_plain : LayoutLaws → (s : GraphicalSettings) (styles : Styles) (source : Option Source) (labels : List Label)
    (a : SourceAnswer) → ArePlain styles
    → rows_text (source_rows (restyled s styles) source labels (unhighlighted_answer a))
    ≡ rows_text (map (map made_plain) (source_rows s source labels a))
source_plain laws s styles None labels a are_plain = refl
source_plain laws s styles (Some source) labels a are_plain =
    let l = end_settings (snippet_settings s) a.end_fails source labels in
    plain_shown (snippet_rows (row_laws.restyled_snippets l styles) source labels (row_laws.unhighlighted_answer a))
    (laws.plain l styles source labels a are_plain)
    ∙ ap shown_text (laws.same l styles source labels a are_plain)
    ∙ sym (shown_in_plain (snippet_rows l source labels a))

source_clean : LayoutLaws → (s : GraphicalSettings) (it : LabelledSource) (a : SourceAnswer) → AreCleanSettings s
    → IsCleanOver it → HaveNoEscapes (source_rows s it.source it.labels a)
source_clean laws s it a h k = clean_over laws s it.source it.labels a h k.0 k.1

over_plain : LayoutLaws → (s : GraphicalSettings) (styles : Styles) (sources : List LabelledSource) (a : SourceAnswers)
    → ArePlain styles → rows_text (rows_over (restyled s styles) sources (map unhighlighted_answer a))
    ≡ rows_text (map (map made_plain) (rows_over s sources a))
over_plain laws s styles [] a are_plain = refl
over_plain laws s styles (it ∷ more) a are_plain =
    let n = length it.labels in
    let own = source_rows s it.source it.labels (first_source a) in
    let rest = rows_over (after_labels n s) more (drop 1 a) in
    rows-appended (source_rows (restyled s styles) it.source it.labels (first_source (map unhighlighted_answer a)))
    (rows_over (restyled (after_labels n s) (styles_after n styles)) more (drop 1 (map unhighlighted_answer a)))
    ∙ ap₂ (λ x y. x ++ y)
    (ap (λ b. rows_text (source_rows (restyled s styles) it.source it.labels b)) (sym (first-unhighlighted-source a))
    ∙ source_plain laws s styles it.source it.labels (first_source a) are_plain)
    (ap (λ b. rows_text (rows_over (restyled (after_labels n s) (styles_after n styles)) more b))
    (sym (later-unhighlighted-sources a))
    ∙ over_plain laws (after_labels n s) (styles_after n styles) more (drop 1 a) (plain_after n styles are_plain))
    ∙ sym (rows-appended (map (map made_plain) own) (map (map made_plain) rest))
    ∙ ap rows_text (sym (map-append (map made_plain) own rest))

over_clean : LayoutLaws → (s : GraphicalSettings) (sources : List LabelledSource) (a : SourceAnswers)
    → AreCleanSettings s
    → AllByRecursion IsCleanOver sources → HaveNoEscapes (rows_over s sources a)
over_clean laws s [] a h k = tt
over_clean laws s (it ∷ more) a h k =
    escapes-appended (source_rows s it.source it.labels (first_source a))
    (rows_over (after_labels (length it.labels) s) more (drop 1 a))
    (source_clean laws s it (first_source a) h k.0)
    (over_clean laws (after_labels (length it.labels) s) more (drop 1 a) h k.1)

-- ---- a diagnostic's

drawn_plain : LayoutLaws → (s : GraphicalSettings) (styles : Styles) (source : Option Source) (m : Diagnosis)
    (a : DiagnosticAnswer)
    → ArePlain styles → rows_text (drawn_rows (restyled s styles) source m (unhighlighted a))
    ≡ rows_text (map (map made_plain) (drawn_rows s source m a))
drawn_plain laws s styles source m a are_plain = over_plain laws (drawn_with m.snippets s) styles (sources_of source m)
    a.sources
    are_plain

drawn_clean : LayoutLaws → (s : GraphicalSettings) (source : Option Source) (m : Diagnosis) (a : DiagnosticAnswer) →
    AreCleanSettings s → IfSome source IsCleanSource → IsCleanMeaning m → HaveNoEscapes (drawn_rows s source m a)
drawn_clean laws s source m a h k j = over_clean laws (drawn_with m.snippets s) (sources_of source m) a.sources h
    ((k, labels-clean m.labels j.labels), further-clean m.snippets j.snippets)

pub drawn_snippets : LayoutLaws → AreSnippets drawn_rows
drawn_snippets laws = record { plain = drawn_plain laws; clean = drawn_clean laws }
