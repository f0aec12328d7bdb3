-- What the clauses of a picture say of a report with a cause.
use Rattle.std.proofs.Common.{◌≤◌, ◌-◌, ◌∷◌, map, ◌≡◌, ℕ, Bool, List, [], ◌++◌, true, refl, sym, ◌∙◌, ap, subst}
use Rattle.std.proofs.Common.{arith, encode_utf8_all, Some}
use Rattle.std.specs.List.{AllByRecursion, Contains}
use Rattle.bstr.specs.Utf8.{pieces_from}
use Rattle.unicode_width.specs.Width.{char_width}
use Rattle.miette_runs.specs.rules.Runs.{print}
use Rattle.miette_lines.specs.rules.Lines.{ends_line, line_end, line_of, line_start}
use Rattle.miette_labels.specs.rules.Groups.{AreInBounds}
use Rattle.miette_snippet_rules.specs.rules.PrintedCells.{cells_width}
use Rattle.miette_tree.specs.rules.Tree.{Tree}
use Rattle.miette_tree.specs.views.Handler.{AppendsOne}
use Rattle.miette_graphical_rules.specs.laws.SnippetTheorems.{CutsAreExact, EndsAreDrawn, LabelsAreFolded}
use Rattle.miette_graphical_rules.specs.laws.SnippetTheorems.{LinesThatFitStay}
use Rattle.miette_graphical_rules.specs.laws.SnippetTheorems.{cells_under}
use Rattle.miette_graphical_laws.specs.laws.FittingRows.{FitsRow, fed_rows, indented_rows}
use Rattle.miette_graphical_rules.specs.laws.HeldRows.{Arrow, HoldsSnippets, IsHoldingText, StartsRowIn}
use Rattle.miette_graphical_laws.specs.laws.Levels.{AreRowsAmong, HaveRoom, HoldsLevels, IsShownRow, StandAfterBars}
use Rattle.miette_graphical_laws.specs.laws.Levels.{settings_under}
use Rattle.miette_graphical_rules.specs.laws.Paths.{to_cause}
use Rattle.miette_graphical_rules.specs.rules.Answers.{Answers, SourceAnswer, cause_answers, first_source, own_answer}
use Rattle.miette_graphical_rules.specs.rules.Answers.{pieces_listed, source_unlisted}
use Rattle.miette_graphical_rules.specs.rules.DiagnosticText.{line_feed}
use Rattle.miette_graphical_rules.specs.rules.Indents.{spaces}
use Rattle.miette_graphical_rules.specs.rules.PossibleAnswers.{AreAnswers}
use Rattle.miette_graphical_rules.specs.rules.PrintedDiagnostics.{HoldsOfPrinted, diagnostics_of}
use Rattle.miette_graphical_rules.specs.rules.GraphicalSettings.{GraphicalSettings}
use Rattle.miette_graphical_rules.specs.rules.Snippets.{whole_drawing, source_rows}
use Rattle.miette_graphical_rules.specs.rules.Sources.{LabelledSource}
use Rattle.miette_graphical_rules.specs.rules.Text.{report_text}
use Rattle.miette_text.specs.laws.Tame.{IsTame}
use Rattle.miette_graphical_rules.specs.views.HandlerState.{HandlerState, draws_plain, without_highlighter}
use Rattle.callers.specs.Sums.{CauseStands, CauseStays, EndStandsAfter, IsLeftOut, LongIsCut, RowsStand}
use Rattle.callers.specs.Sums.{narrow, sum_file}
use Rattle.callers.specs.Sums.{sum_labels}
use Rattle.callers.specs.Sums.{cause_arrow, depth_file, depth_labels, sum_tree}

-- ---- of the handler and the tree that are known

pub known : {H : Type 0} (P : GraphicalSettings → LabelledSource → Type 0) (h : HandlerState H) (t : Tree)
    → h ≡ without_highlighter narrow → t ≡ sum_tree → AllByRecursion (HoldsOfPrinted P h.settings)
    (diagnostics_of h.settings t)
    → AllByRecursion (HoldsOfPrinted P narrow) (diagnostics_of narrow sum_tree)
known P h t p q all =
    subst (λ u. AllByRecursion (HoldsOfPrinted P narrow) (diagnostics_of narrow u)) q
    (subst (λ g. AllByRecursion (HoldsOfPrinted P g.settings) (diagnostics_of g.settings t)) p all)

-- ---- lines that are cut, and lines that fit

pub is_cut : AllByRecursion (HoldsOfPrinted CutsAreExact narrow) (diagnostics_of narrow sum_tree) → LongIsCut
unfolding ends_line pieces_from char_width
is_cut all =
    let long : cells_width 0 (cells_under narrow sum_file 6) ≡ 31 = refl in
    let short : cells_width 0 (cells_under narrow sum_file 0) ≡ 5 = refl in
    record {
      long = (all.0.0 6 12 refl).wide (omega (arith, long));
      short = (all.0.0 0 12 refl).fits
          (omega (arith, short));
    }

pub cause_stays : AllByRecursion (HoldsOfPrinted LinesThatFitStay narrow) (diagnostics_of narrow sum_tree) → CauseStays
unfolding ends_line line_of line_start line_end pieces_from char_width
cause_stays all =
    let width : cells_width 0 (cells_under narrow depth_file 0) ≡ 9 = refl in
    all.1.0.0.1 ((omega (arith, width), tt), tt)

-- ---- labels at the end, and folded ones

pub end_stands : AllByRecursion (HoldsOfPrinted EndsAreDrawn narrow) (diagnostics_of narrow sum_tree) → EndStandsAfter
unfolding ends_line line_of
end_stands all = all.0.0.0 refl

pub left_out : AllByRecursion (HoldsOfPrinted LabelsAreFolded narrow) (diagnostics_of narrow sum_tree) → IsLeftOut
unfolding ends_line line_of
left_out all =
    let accepted : AreInBounds sum_file.bytes sum_labels = (
      record { begins = omega arith; ends = omega arith },
      (record { begins = omega arith; ends = omega arith }, (record { begins = omega arith; ends = omega arith }, tt)),
    ) in
    let folded = all.0.0 refl accepted (omega arith, (omega arith, (omega arith, tt))) in
    record { out = refl; next = refl; inside = folded.inside 2 (omega arith) refl }

-- ---- the rows in the text

-- what was appended to nothing, by a handler and of a tree that are known
held : {H : Type 0} (is_blank : H → Bool) (h : HandlerState H) (t : Tree) (text : List ℕ) → h
    ≡ without_highlighter narrow
    → t ≡ sum_tree → IsHoldingText whole_drawing h.settings (draws_plain is_blank h) t text
    → IsHoldingText whole_drawing narrow true sum_tree text
held is_blank h t text p q is =
    subst (λ u. IsHoldingText whole_drawing narrow true u text) q
    (subst (λ g. IsHoldingText whole_drawing g.settings (draws_plain is_blank g) t text) p is)

-- where every source always reads and lines are plain, answers say nothing
own_nothing : (a : Answers) → AreAnswers narrow true sum_tree a → first_source (own_answer a).sources
    ≡ source_unlisted
own_nothing a are = are.0.sources.0.read refl ∙ ap pieces_listed (are.0.sources.0.plain refl)

cause_nothing : (a : Answers) → AreAnswers narrow true sum_tree a → first_source (own_answer (cause_answers a)).sources
    ≡ source_unlisted
cause_nothing a are = let own = (are.1 refl).0.sources.0 in own.read refl ∙ ap pieces_listed (own.plain refl)

pub rows_stand : {H : Type 0} (is_blank : H → Bool) (h : HandlerState H) (t : Tree) (old new : List ℕ)
    → h ≡ without_highlighter narrow → t ≡ sum_tree → old ≡ []
    → AppendsOne (IsHoldingText whole_drawing h.settings (draws_plain is_blank h) t) old new → RowsStand new
rows_stand is_blank h t old new p q none appended row there =
    let own = held is_blank h t appended.text p q appended.is_given in
    let whole : new ≡ appended.text = appended.appended ∙ ap (λ o. o ++ appended.text) none in
    subst (StartsRowIn (encode_utf8_all (print row ++ line_feed))) (sym whole)
    (own.rows_stand [] _ refl refl row
    (subst (λ a. Contains (source_rows narrow (Some sum_file) sum_labels a ++ []) row)
    (sym (own_nothing own.answers own.are)) there))

-- ---- under the arrow

abbrev arrows : List Arrow
arrows = cause_arrow ∷ []

-- six columns are taken of 200
left_under : (settings_under narrow arrows).width ≡ 194
unfolding char_width
left_under = refl

tame_rows : (rows : List (List ℕ)) → AllByRecursion IsShownRow rows → AllByRecursion IsTame rows
tame_rows [] h = tt
tame_rows (row ∷ rows) h = (h.0.0, tame_rows rows h.1)

pub cause_stands : {H : Type 0} (is_blank : H → Bool) (h : HandlerState H) (t : Tree) (old new : List ℕ)
    → h ≡ without_highlighter narrow → t ≡ sum_tree → old ≡ []
    → AppendsOne (IsHoldingText whole_drawing h.settings (draws_plain is_blank h) t) old new
    → ((a : Answers) (text : List ℕ) → HoldsSnippets whole_drawing narrow sum_tree a text
    → HoldsLevels whole_drawing narrow sum_tree a (encode_utf8_all text))
    → ((rows : List (List ℕ)) → HaveRoom narrow arrows rows)
    → ((rows : List (List ℕ)) → StandAfterBars narrow [] rows) → CauseStands new
cause_stands is_blank h t old new p q none appended levels room after rows among shown fit =
    let own = held is_blank h t appended.text p q appended.is_given in
    let whole : new ≡ encode_utf8_all (report_text whole_drawing narrow sum_tree own.answers) =
    appended.appended ∙ ap (λ o. o ++ appended.text) none ∙ own.text in
    let drawn : SourceAnswer → List ℕ = λ a. fed_rows (map print
    (source_rows (settings_under narrow arrows) (Some depth_file) depth_labels a ++ [])) in
    let there : AreRowsAmong (drawn (first_source (own_answer (cause_answers own.answers)).sources)) arrows rows =
    subst (λ a. AreRowsAmong (drawn a) arrows rows) (sym (cause_nothing own.answers own.are)) among in
    let fits : AllByRecursion (FitsRow ((settings_under narrow arrows).width - 2)) rows =
    subst (λ w. AllByRecursion (FitsRow (w - 2)) rows) (sym left_under) fit in
    let wide : 2 ≤ (settings_under narrow arrows).width = omega (arith, left_under) in
    let stands = levels own.answers (report_text whole_drawing narrow sum_tree own.answers) own.holds (to_cause ∷ [])
    _ refl
    rows there (room rows wide (tame_rows rows shown) fits) in
    subst (StartsRowIn (encode_utf8_all (indented_rows (spaces 6) rows))) (sym whole)
    (subst (λ part. StartsRowIn (encode_utf8_all part)
    (encode_utf8_all (report_text whole_drawing narrow sum_tree own.answers))) (after rows shown cause_arrow) stands)
