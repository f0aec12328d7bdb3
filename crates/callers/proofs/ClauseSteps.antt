-- What the clauses of a picture say of one report.
use Rattle.std.proofs.Common.{◌≡◌, ℕ, Bool, List, [], ◌++◌, true, refl, sym, ◌∙◌, ap, ap₂, subst, arith}
use Rattle.std.proofs.Common.{encode_utf8_all}
use Rattle.std.specs.List.{AllByRecursion}
use Rattle.std.specs.Str.{chars}
use Rattle.bstr.specs.Utf8.{pieces_from}
use Rattle.unicode_width.specs.Width.{char_width}
use Rattle.miette_lines.specs.rules.Lines.{ends_line, line_of}
use Rattle.miette_tree.specs.rules.Tree.{Tree}
use Rattle.miette_style.specs.rules.Themes.{Styles, theme_of, ansi_styles, no_styles}
use Rattle.miette_style.specs.rules.Themes.{unicode_characters}
use Rattle.miette_style.specs.declared.theme.GraphicalTheme.{GraphicalTheme}
use Rattle.miette_graphical_rules.specs.rules.Answers.{unlisted}
use Rattle.miette_graphical_rules.specs.rules.PossibleAnswers.{Appends, IsTextOf}
use Rattle.miette_graphical_rules.specs.laws.Clean.{AreCleanSettings, IsCleanTree}
use Rattle.miette_graphical_rules.specs.laws.PlainTexts.{ArePlain, restyled}
use Rattle.miette_graphical_rules.specs.laws.SnippetTheorems.{LinesAreShown, UnderlinesAreApart, TextsAreConnected}
use Rattle.miette_graphical_rules.specs.laws.CharacterSets.{AreNarrow}
use Rattle.miette_graphical_rules.specs.rules.PrintedDiagnostics.{HoldsOfPrinted, all_read, diagnostics_of}
use Rattle.miette_graphical_rules.specs.rules.GraphicalSettings.{GraphicalSettings, default_settings}
use Rattle.miette_graphical_rules.specs.rules.Snippets.{whole_drawing}
use Rattle.miette_graphical_rules.specs.rules.Text.{report_text}
use Rattle.miette_graphical_rules.specs.views.HandlerState.{HandlerState, draws_plain, without_highlighter}
use Rattle.miette_runs.specs.rules.Sequences.{erase}
use Rattle.miette_text.specs.rules.ColouredTexts.{AppendsErasing}
use Rattle.callers.specs.Known.{HasOwnMark, ShowsBothLines, TextHangs, in_colours, plain, warning_tree}
use Rattle.miette_columns.specs.rules.Widths.{width_of}

-- ---- how the handlers are set

pub plain-one : {H : Type 0} (theme : GraphicalTheme) (made : HandlerState H) → theme_of theme
    ≡ record { characters = unicode_characters; styles = no_styles }
    → made ≡ without_highlighter (default_settings (theme_of theme)) → made
    ≡ without_highlighter plain
plain-one theme made is m = m ∙ ap (λ t. without_highlighter (default_settings t)) is

pub coloured-one : {H : Type 0} (theme : GraphicalTheme) (made : HandlerState H) → theme_of theme
    ≡ record { characters = unicode_characters; styles = ansi_styles }
    → made ≡ without_highlighter (default_settings (theme_of theme)) → made
    ≡ without_highlighter in_colours
coloured-one theme made is m = m ∙ ap (λ t. without_highlighter (default_settings t)) is

-- ---- the report is read whole, and holds no escape

pub clean : IsCleanTree warning_tree
unfolding chars
clean = (
  record { message = refl; code = tt; help = tt; url = tt; labels = (refl, tt); snippets = tt; fixes = tt },
  record { name = refl; bytes = refl },
  tt,
  tt,
)

-- ---- what its snippet shows

pub both_lines : {H : Type 0} (h : HandlerState H) (t : Tree) → h ≡ without_highlighter plain → t ≡ warning_tree
    → AllByRecursion (HoldsOfPrinted LinesAreShown h.settings) (diagnostics_of h.settings t) → ShowsBothLines plain
unfolding ends_line line_of
both_lines h t p q all =
    let here : AllByRecursion (HoldsOfPrinted LinesAreShown plain) (diagnostics_of plain warning_tree) =
    subst (λ u. AllByRecursion (HoldsOfPrinted LinesAreShown plain) (diagnostics_of plain u)) q
    (subst (λ g. AllByRecursion (HoldsOfPrinted LinesAreShown g.settings) (diagnostics_of g.settings t)) p all) in
    record {
      lines = refl;
      shown = here.0.0 refl (record { begins = omega arith; ends = omega arith }, tt)
          (omega arith, tt);
    }

pub own_mark : {H : Type 0} (h : HandlerState H) (t : Tree) → h ≡ without_highlighter plain → t ≡ warning_tree
    → AllByRecursion (HoldsOfPrinted UnderlinesAreApart h.settings) (diagnostics_of h.settings t) → HasOwnMark plain
unfolding ends_line pieces_from char_width
own_mark h t p q all =
    let here : AllByRecursion (HoldsOfPrinted UnderlinesAreApart plain) (diagnostics_of plain warning_tree) =
    subst (λ u. AllByRecursion (HoldsOfPrinted UnderlinesAreApart plain) (diagnostics_of plain u)) q
    (subst (λ g. AllByRecursion (HoldsOfPrinted UnderlinesAreApart g.settings) (diagnostics_of g.settings t)) p all) in
    record { columns = (refl, tt); own = here.0.0 1 }

pub text_hangs : {H : Type 0} (h : HandlerState H) (t : Tree) → h ≡ without_highlighter plain → t ≡ warning_tree
    → AreNarrow width_of unicode_characters
    → AllByRecursion (HoldsOfPrinted TextsAreConnected h.settings) (diagnostics_of h.settings t) → TextHangs plain
text_hangs h t p q narrow all =
    let here : AllByRecursion (HoldsOfPrinted TextsAreConnected plain) (diagnostics_of plain warning_tree) =
    subst (λ u. AllByRecursion (HoldsOfPrinted TextsAreConnected plain) (diagnostics_of plain u)) q
    (subst (λ g. AllByRecursion (HoldsOfPrinted TextsAreConnected g.settings) (diagnostics_of g.settings t)) p all) in
    here.0.0 narrow

-- ---- the plain picture is the text of the definition, and the coloured one is it too, without its colours

are_read : {H : Type 0} (h : HandlerState H) (t : Tree) (s : GraphicalSettings) → h ≡ without_highlighter s → t
    ≡ warning_tree
    → all_read (diagnostics_of s warning_tree) ≡ true → all_read (diagnostics_of h.settings t) ≡ true
are_read h t s p r read = ap₂ (λ u w. all_read (diagnostics_of u.settings w)) p r ∙ read

pub plain_text : {H : Type 0} (is_blank : H → Bool) (h : HandlerState H) (t : Tree) (old new : List ℕ)
    → h ≡ without_highlighter plain → t ≡ warning_tree → old ≡ []
    → (draws_plain is_blank h ≡ true → all_read (diagnostics_of h.settings t) ≡ true
    → new ≡ old ++ encode_utf8_all (report_text whole_drawing h.settings t unlisted))
    → new ≡ encode_utf8_all (report_text whole_drawing plain warning_tree unlisted)
plain_text is_blank h t old new p r none only =
    only (ap (draws_plain is_blank) p) (are_read h t plain p r refl)
    ∙ ap (λ o. o ++ encode_utf8_all (report_text whole_drawing h.settings t unlisted)) none
    ∙ ap₂ (λ u w. encode_utf8_all (report_text whole_drawing u.settings w unlisted)) p r

pub bare_text : {H : Type 0} (h : HandlerState H) (t : Tree) (old new : List ℕ)
    → h ≡ without_highlighter in_colours → t ≡ warning_tree → old ≡ []
    → (all_read (diagnostics_of h.settings t) ≡ true → AreCleanSettings h.settings → IsCleanTree t
    → (styles : Styles) → ArePlain styles
    → AppendsErasing old new (encode_utf8_all (report_text whole_drawing (restyled h.settings styles) t unlisted)))
    → AreCleanSettings in_colours → ArePlain no_styles
    → erase new ≡ encode_utf8_all (report_text whole_drawing plain warning_tree unlisted)
bare_text h t old new p r none coloured tame bare =
    let settings : AreCleanSettings h.settings = subst (λ u. AreCleanSettings u.settings) (sym p) tame in
    let appended = coloured (are_read h t in_colours p r refl) settings (subst IsCleanTree (sym r) clean) no_styles
    bare in
    ap erase (appended.1 ∙ ap (λ o. o ++ appended.0) none) ∙ appended.2
    ∙ ap₂ (λ u w. encode_utf8_all (report_text whole_drawing (restyled u.settings no_styles) w unlisted)) p r

-- ---- what every handler appends, where it can be one text alone

pub debugged : {H : Type 0} (is_blank : H → Bool) (h : HandlerState H) (t : Tree) (old new : List ℕ)
    → h ≡ without_highlighter plain → t ≡ warning_tree → old ≡ []
    → Appends whole_drawing h.settings (draws_plain is_blank h) t old new
    → ((s : GraphicalSettings) (t : Tree) (bytes : List ℕ) → IsTextOf whole_drawing s true t bytes
    → all_read (diagnostics_of s t) ≡ true → bytes ≡ encode_utf8_all (report_text whole_drawing s t unlisted))
    → new ≡ encode_utf8_all (report_text whole_drawing plain warning_tree unlisted)
debugged is_blank h t old new p r none given law =
    let known : IsTextOf whole_drawing plain true warning_tree given.text =
    subst (λ w. IsTextOf whole_drawing plain true w given.text) r
    (subst (λ u. IsTextOf whole_drawing u.settings (draws_plain is_blank u) t given.text) p given.is_given) in
    given.appended ∙ ap (λ o. o ++ given.text) none ∙ law plain warning_tree given.text known refl
