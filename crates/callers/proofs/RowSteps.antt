-- A row of the second line of the warning's source stands in its picture.
use Rattle.std.proofs.Common.{◌≡◌, ℕ, Bool, true, List, [], ◌∷◌, ◌++◌, refl, sym, ◌∙◌, ap, subst, map, Some}
use Rattle.std.proofs.Common.{arith, encode_utf8_all}
use Rattle.std.specs.Fmt.{digits}
use Rattle.std.specs.List.{Contains}
use Rattle.std.proofs.lemmas.List.Elements.{Contains-append_left, Contains-append_right}
use Rattle.std.proofs.lemmas.Str.{encodes-append}
use Rattle.bstr.specs.Utf8.{pieces_from}
use Rattle.unicode_width.specs.Width.{char_width}
use Rattle.miette_style.specs.rules.Rows.{Row}
use Rattle.miette_runs.specs.rules.Runs.{Fragment, print}
use Rattle.miette_snippet_rules.specs.rules.Numbers.{ranges}
use Rattle.miette_snippet_rules.specs.rules.SnippetSettings.{SnippetSettings}
use Rattle.miette_snippet_rules.specs.rules.ShownLines.{line_at}
use Rattle.miette_snippet_rules.specs.rules.SnippetLayout.{SnippetContext}
use Rattle.miette_snippet_rules.specs.rules.Snippets.{is_kept}
use Rattle.miette_lines.specs.rules.Lines.{Line, ends_line, line_of, lines_of}
use Rattle.miette_tree.specs.rules.Tree.{Tree}
use Rattle.miette_tree.specs.views.Handler.{AppendsOne}
use Rattle.miette_graphical_rules.specs.laws.SnippetTheorems.{group_settings, context_numbers}
use Rattle.miette_graphical_rules.specs.laws.HeldRows.{IsHoldingText, StartsRowIn}
use Rattle.miette_graphical_rules.specs.rules.Answers.{Answers, first_source, own_answer, pieces_listed}
use Rattle.miette_graphical_rules.specs.rules.Answers.{source_unlisted}
use Rattle.miette_graphical_rules.specs.rules.DiagnosticText.{line_feed}
use Rattle.miette_graphical_rules.specs.rules.PossibleAnswers.{AreAnswers}
use Rattle.miette_graphical_rules.specs.rules.Snippets.{runs_of_row, source_rows, whole_drawing}
use Rattle.miette_graphical_rules.specs.views.HandlerState.{HandlerState, draws_plain, without_highlighter}
use Rattle.miette_graphical_rules.specs.rules.Indents.{spaces}
use Rattle.miette_graphical_laws.specs.laws.NumberRows.{IsPlainLine, PrintsItself, PrintsNumber, line_bytes, numbered}
use Rattle.miette_graphical_laws.specs.laws.NumberRows.{padded, printed_line}
use Rattle.miette_graphical_laws.specs.laws.ShownLines.{PlaceIn, ShownLinesStand, AreInOrderIn, range_context}
use Rattle.callers.specs.Known.{ShowsBothLines, host_row, name_label, plain, settings_file, warning_tree}

-- ---- the second line, as it is drawn

abbrev context : SnippetContext
context = range_context plain settings_file (name_label ∷ []) (0 ∷ 1 ∷ [])

abbrev host : Line
host = line_at (lines_of settings_file.bytes) 1

plain_line : IsPlainLine context host
unfolding ends_line pieces_from char_width
plain_line = record { numbers = refl; alone = refl; whole = refl }

printable : PrintsItself (group_settings plain settings_file (name_label ∷ [])) settings_file.bytes host
    → encode_utf8_all (printed_line (context.cells host)) ≡ line_bytes settings_file.bytes host
unfolding ends_line
printable itself = itself refl

-- its bytes
host_bytes : (number : PrintsNumber context host 2)
    → PrintsItself (group_settings plain settings_file (name_label ∷ [])) settings_file.bytes host
    → encode_utf8_all (print (runs_of_row number.row) ++ line_feed) ≡ host_row
unfolding ends_line digits lib.Utf8.encode
host_bytes number itself =
    encodes-append (print (runs_of_row number.row)) line_feed
    ∙ ap (λ bytes. bytes ++ encode_utf8_all line_feed) (number.bytes (omega arith))
    ∙ ap (λ text. numbered (padded context.number_width 2)
    (encode_utf8_all (context.settings.theme.characters.vbar ∷ [])) (spaces context.gutter ++ text)
    ++ encode_utf8_all line_feed) (printable itself)

-- ---- among the rows

first_among : {A : Type 0} (x : A) (xs all : List A) → AreInOrderIn (x ∷ xs) all → Contains all x
first_among x xs all h =
    subst (λ rows. Contains rows x) (sym h.whole)
    (Contains-append_left (h.above ++ x ∷ xs) h.below x
    (Contains-append_right h.above (x ∷ xs) x (0, omega arith, refl)))

kept : is_kept plain.layout.label_lines plain.layout.context_lines settings_file.bytes (name_label ∷ []) 1 ≡ true
unfolding ends_line line_of
kept = refl

number_among : (number : PrintsNumber context host 2) → ShowsBothLines plain
    → ShownLinesStand plain settings_file (name_label ∷ [])
    → Contains (source_rows plain (Some settings_file) (name_label ∷ []) source_unlisted) (runs_of_row number.row)
number_among number both stand =
    let place : PlaceIn (ranges (context_numbers plain settings_file (name_label ∷ []))) = record {
      before = [];
      front = 0 ∷ [];
      line = 1;
      back = [];
      after = [];
      there = both.lines;
    } in
    first_among (runs_of_row number.row) (map runs_of_row number.below)
    (source_rows plain (Some settings_file) (name_label ∷ []) source_unlisted)
    (subst (λ (rows : List Row). AreInOrderIn (map runs_of_row rows)
    (source_rows plain (Some settings_file) (name_label ∷ []) source_unlisted)) number.first (stand place [] kept))

-- ---- in the text

nothing_answered : (a : Answers) → AreAnswers plain true warning_tree a → first_source (own_answer a).sources
    ≡ source_unlisted
nothing_answered a are = are.0.sources.0.read refl ∙ ap pieces_listed (are.0.sources.0.plain refl)

pub host_stands : {H : Type 0} (is_blank : H → Bool) (h : HandlerState H) (t : Tree) (old new : List ℕ)
    → h ≡ without_highlighter plain → t ≡ warning_tree → old ≡ []
    → AppendsOne (IsHoldingText whole_drawing h.settings (draws_plain is_blank h) t) old new
    → ShowsBothLines plain → ShownLinesStand plain settings_file (name_label ∷ [])
    → ((c : SnippetContext) (line : Line) (number : ℕ) → IsPlainLine c line → PrintsNumber c line number)
    → ((s : SnippetSettings) (bytes : List ℕ) (line : Line) → PrintsItself s bytes line) → StartsRowIn host_row new
host_stands is_blank h t old new p q none appended both stand numbers itself =
    let own : IsHoldingText whole_drawing plain true warning_tree appended.text =
    subst (λ u. IsHoldingText whole_drawing plain true u appended.text) q
    (subst (λ g. IsHoldingText whole_drawing g.settings (draws_plain is_blank g) t appended.text) p
    appended.is_given) in
    let whole : new ≡ appended.text = appended.appended ∙ ap (λ o. o ++ appended.text) none in
    let number : PrintsNumber context host 2 = numbers context host 2 plain_line in
    let row : List Fragment = runs_of_row number.row in
    let rows : List (List Fragment) = source_rows plain (Some settings_file) (name_label ∷ []) source_unlisted in
    subst (StartsRowIn host_row) (sym whole)
    (subst (λ bytes. StartsRowIn bytes appended.text)
    (host_bytes number (itself (group_settings plain settings_file (name_label ∷ [])) settings_file.bytes host))
    (own.rows_stand [] _ refl refl row
    (subst (λ a. Contains (source_rows plain (Some settings_file) (name_label ∷ []) a ++ []) row)
    (sym (nothing_answered own.answers own.are))
    (Contains-append_left rows [] row (number_among number both stand)))))
