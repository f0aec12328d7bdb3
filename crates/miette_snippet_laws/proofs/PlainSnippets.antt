-- All rows of snippets in their styles, and the same rows in plain ones.
use Rattle.std.proofs.Common.{◌≡◌, Bool, true, false, ◌||◌, if◌then◌else◌, List, map, Option, Some, None, IfSome}
use Rattle.std.proofs.Common.{option_map, refl, sym, ap, subst}
use Rattle.std.specs.List.{AllByRecursion}
use Rattle.miette_protocol.specs.views.Meaning.{Label}
use Rattle.miette_protocol.specs.rules.Reading.{Source}
use Rattle.miette_labels.specs.rules.Answers.{Answers}
use Rattle.miette_labels.specs.rules.Groups.{Refusal, first_refusal, in_order, groups_of, some_fails, groups_fail}
use Rattle.miette_style.specs.rules.Rows.{Row, glyphs_of}
use Rattle.miette_style.specs.declared.style.Style.{Style}
use Rattle.miette_style.specs.rules.Themes.{Styles}
use Rattle.miette_snippet_rules.specs.rules.FoldedLabels.{extents_of_labels}
use Rattle.miette_snippet_rules.specs.rules.Frames.{refused_row}
use Rattle.miette_snippet_rules.specs.rules.SnippetSettings.{SnippetSettings}
use Rattle.miette_snippet_rules.specs.rules.SnippetLayout.{settings_around, rows_unless, snippet_rows}
use Rattle.miette_snippet_laws.specs.laws.Clean.{AreCleanDrawings, IsCleanLabel, IsCleanRow, IsCleanSource}
use Rattle.miette_snippet_laws.specs.laws.PlainStyles.{AreAllPlain, ArePlain, IsPlainRow, restyled_snippets}
use Rattle.miette_snippet_laws.specs.laws.PlainStyles.{unhighlighted_answer}
use Rattle.miette_snippet_laws.proofs.PlainLabels.{ordered_clean}
use Rattle.miette_snippet_laws.proofs.PlainRows.{PlainRows, rows_nil, rows_cons}
use Rattle.miette_snippet_laws.proofs.PlainFrames.{IsCleanRefusal, plain_with, plain_all, plain_refused, refusal_clean}
use Rattle.miette_snippet_laws.proofs.PlainStyles.{are_plain_styles}

-- rows for rows, and none for none
pub record PlainGiven (P : Type 0) (x y : Option (List Row)) : Type 0 where
  pub same : option_map (map glyphs_of) x ≡ option_map (map glyphs_of) y
  pub plain : IfSome x (AllByRecursion IsPlainRow)
  pub clean : P → IfSome y (AllByRecursion IsCleanRow)

given : {P : Type 0} {xs ys : List Row} → PlainRows P xs ys → PlainGiven P (Some xs) (Some ys)
given h = record { same = ap Some h.same; plain = h.plain; clean = h.clean }

given_unless : {P : Type 0} (b : Bool) {xs ys : List Row} → PlainRows P xs ys
    → PlainGiven P (if b then None else Some xs) (if b then None else Some ys)
given_unless true h = record { same = refl; plain = tt; clean = λ p. tt }
given_unless false h = given h

-- the rows of groups, with the lines of context with which they are read
module _ (P : Type 0) (s : SnippetSettings) (hs : List Style) (are_plain : AreAllPlain hs)
    (clean : P → AreCleanDrawings s.theme.characters) where
  plain_unless : (source : Source) (labels : List Label) (answers : Answers) (refused : Option Refusal) →
      (P → IsCleanSource source) → (P → AllByRecursion IsCleanLabel labels) → (P → IfSome refused IsCleanRefusal) →
      PlainGiven P (rows_unless (plain_with hs s) source labels (unhighlighted_answer answers)
      (option_map (refused_row (plain_with hs s)) refused))
      (rows_unless s source labels answers (option_map (refused_row s) refused))
  plain_unless source labels answers (Some refused) h k j =
      given (rows_cons P (plain_refused P s hs are_plain clean refused j) (rows_nil P))
  plain_unless source labels answers None h k j =
      let groups = groups_of s.layout.context_lines source answers.join_fails labels in
      given_unless (groups_fail s.layout.context_lines source answers.join_fails labels
      || some_fails answers.place_fails groups)
      (plain_all P (settings_around s labels) hs are_plain clean
      (extents_of_labels s.layout.label_lines s.layout.context_lines source labels) source labels answers.pieces groups
      h k)

  plain_snippets_with : (source : Source) (labels : List Label) (answers : Answers) → (P → IsCleanSource source)
      → (P → AllByRecursion IsCleanLabel labels) →
      PlainGiven P (snippet_rows (plain_with hs s) source labels (unhighlighted_answer answers))
      (snippet_rows s source labels answers)
  plain_snippets_with source labels answers h k =
      plain_unless source (in_order labels) answers (first_refusal source.bytes answers.label_fails (in_order labels)) h
      (λ p. ordered_clean labels (k p))
      (λ p. refusal_clean P s hs are_plain clean source.bytes answers.label_fails (in_order labels)
      (ordered_clean labels (k p)))

-- the same in any plain styles
pub plain_snippets : (P : Type 0) (s : SnippetSettings) (styles : Styles) → ArePlain styles
    → (P → AreCleanDrawings s.theme.characters) → (source : Source) (labels : List Label) (answers : Answers)
    → (P → IsCleanSource source) → (P → AllByRecursion IsCleanLabel labels)
    → PlainGiven P (snippet_rows (restyled_snippets s styles) source labels (unhighlighted_answer answers))
    (snippet_rows s source labels answers)
plain_snippets P s styles are_plain clean source labels answers h k =
    subst (λ u. PlainGiven P (snippet_rows (restyled_snippets s u) source labels (unhighlighted_answer answers))
    (snippet_rows s source labels answers)) (sym (are_plain_styles styles are_plain))
    (plain_snippets_with P s styles.highlights are_plain.highlights clean source labels answers h k)
