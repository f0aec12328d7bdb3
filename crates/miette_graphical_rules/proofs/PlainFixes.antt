-- The rows of fixes turn plain, and hold no escape: from what is known of the rows of a fix.
use Rattle.std.proofs.Common.{◌≡◌, Bool, List, [], ◌∷◌, map, refl, sym, ap, ◌∙◌, Option, Some, None, IfSome}
use Rattle.std.specs.List.{AllByRecursion}
use Rattle.miette_fix_rows.specs.rules.DiffRows.{fix_rows}
use Rattle.miette_fixes.specs.rules.Edits.{FixModel, Replacement}
use Rattle.miette_style.specs.rules.Rows.{glyphs_of}
use Rattle.miette_protocol.specs.rules.Reading.{Source}
use Rattle.miette_snippet_laws.specs.laws.Clean.{AreCleanDrawings, IsClean, IsCleanRow, IsCleanSource}
use Rattle.miette_snippet_laws.specs.laws.PlainStyles as row_laws
use Rattle.miette_snippet_laws.specs.laws.PlainStyles.{ArePlain, IsPlainRow}
use Rattle.miette_runs.specs.rules.Runs.{made_plain}
use Rattle.miette_snippet_rules.specs.rules.SnippetSettings as snippets
use Rattle.miette_style.specs.rules.Themes.{Styles}
use Rattle.miette_tree.specs.rules.Diagnosis.{Diagnosis}
use Rattle.miette_graphical_rules.specs.laws.Clean.{AreCleanSettings, HaveNoEscapes, IsCleanFix, IsCleanMeaning}
use Rattle.miette_graphical_rules.specs.laws.PlainTexts.{ArePlainFixes, IsCleanShown, restyled, unhighlighted}
use Rattle.miette_graphical_rules.specs.rules.Answers.{DiagnosticAnswer}
use Rattle.miette_graphical_rules.specs.rules.DiagnosticText.{rows_text}
use Rattle.miette_graphical_rules.specs.rules.GraphicalSettings.{GraphicalSettings}
use Rattle.miette_graphical_rules.specs.rules.Snippets.{drawn_fix, drawn_fixes, rows_of_fix, snippet_settings}
use Rattle.miette_graphical_rules.proofs.PlainSnippets.{rows_in_plain, clean_rows, plain_rows, text_of}

-- the clauses of those laws
pub record FixLaws : Type 0 where
  pub same : (s : snippets.SnippetSettings) (styles : Styles) (source : Source) (fails : Bool)
      (edits : List Replacement) → ArePlain styles →
      map glyphs_of (fix_rows (row_laws.restyled_snippets s styles) source fails edits)
      ≡ map glyphs_of (fix_rows s source fails edits)
  pub plain : (s : snippets.SnippetSettings) (styles : Styles) (source : Source) (fails : Bool)
      (edits : List Replacement) → ArePlain styles →
      AllByRecursion IsPlainRow (fix_rows (row_laws.restyled_snippets s styles) source fails edits)
  pub clean : (s : snippets.SnippetSettings) (source : Source) (fails : Bool) (edits : List Replacement) →
      AreCleanDrawings s.theme.characters → IsCleanSource source →
      AllByRecursion (λ (edit : Replacement). IsClean edit.text) edits
      → AllByRecursion IsCleanRow (fix_rows s source fails edits)

module _ (laws : FixLaws) where
  fix_plain : (s : GraphicalSettings) (styles : Styles) (source : Option Source) (fails : Bool)
      (edits : List Replacement)
      → ArePlain styles → rows_text (rows_of_fix (restyled s styles) source fails edits)
      ≡ rows_text (map (map made_plain) (rows_of_fix s source fails edits))
  fix_plain s styles None fails edits are_plain = refl
  fix_plain s styles (Some source) fails edits are_plain =
      let l = snippet_settings s in
      plain_rows (fix_rows (row_laws.restyled_snippets l styles) source fails edits)
      (laws.plain l styles source fails edits are_plain)
      ∙ ap text_of (laws.same l styles source fails edits are_plain)
      ∙ sym (rows_in_plain (fix_rows l source fails edits))

  fixes_plain : (s : GraphicalSettings) (styles : Styles) (source : Option Source) (fails : Bool)
      (fixes : List FixModel)
      → ArePlain styles
      → ArePlainFixes (map (drawn_fix (restyled s styles) source fails) fixes) (map (drawn_fix s source fails) fixes)
  fixes_plain s styles source fails [] are_plain = tt
  fixes_plain s styles source fails (fix ∷ fixes) are_plain = (
    record { message = refl; rows = fix_plain s styles source fails fix.edits are_plain },
    fixes_plain s styles source fails fixes are_plain,
  )

  pub drawn_fixes_plain : (s : GraphicalSettings) (styles : Styles) (source : Option Source) (m : Diagnosis)
      (a : DiagnosticAnswer)
      → ArePlain styles
      → ArePlainFixes (drawn_fixes (restyled s styles) source m (unhighlighted a)) (drawn_fixes s source m a)
  drawn_fixes_plain s styles source m a are_plain = fixes_plain s styles source a.fixes_fail m.fixes are_plain

  fix_clean : (s : GraphicalSettings) (source : Option Source) (fails : Bool) (edits : List Replacement)
      → AreCleanSettings s
      → IfSome source IsCleanSource → AllByRecursion (λ (edit : Replacement). IsClean edit.text) edits
      → HaveNoEscapes (rows_of_fix s source fails edits)
  fix_clean s None fails edits h k j = tt
  fix_clean s (Some source) fails edits h k j =
      clean_rows (fix_rows (snippet_settings s) source fails edits)
      (laws.clean (snippet_settings s) source fails edits h.0.drawings k j)

  fixes_clean : (s : GraphicalSettings) (source : Option Source) (fails : Bool) (fixes : List FixModel)
      → AreCleanSettings s
      → IfSome source IsCleanSource → AllByRecursion IsCleanFix fixes
      → AllByRecursion IsCleanShown (map (drawn_fix s source fails) fixes)
  fixes_clean s source fails [] h k j = tt
  fixes_clean s source fails (fix ∷ fixes) h k j = (
    record { message = j.0.message; rows = fix_clean s source fails fix.edits h k j.0.texts },
    fixes_clean s source fails fixes h k j.1,
  )

  pub drawn_fixes_clean : (s : GraphicalSettings) (source : Option Source) (m : Diagnosis) (a : DiagnosticAnswer)
      → AreCleanSettings s
      → IfSome source IsCleanSource → IsCleanMeaning m → AllByRecursion IsCleanShown (drawn_fixes s source m a)
  drawn_fixes_clean s source m a h k j = fixes_clean s source a.fixes_fail m.fixes h k j.fixes
