-- What the clauses on colours and highlighters say of one report.
use Rattle.std.proofs.Common.{◌≡◌, ℕ, Bool, List, [], ◌++◌, true, refl, sym, ◌∙◌, ap, ap₂, subst, append-nil}
use Rattle.std.proofs.Common.{encode_utf8_all, Option, Some, None}
use Rattle.miette_tree.specs.rules.Tree.{Tree}
use Rattle.miette_tree.specs.views.Handler.{AppendsOne}
use Rattle.miette_style.specs.rules.Themes.{Styles, no_styles, theme_of, unicode_characters}
use Rattle.miette_style.specs.declared.theme.GraphicalTheme.{GraphicalTheme}
use Rattle.miette_highlight.specs.rules.HighlighterCalls.{AnsweredBy, Call}
use Rattle.miette_highlight.specs.rules.Pieces.{StyledPiece, plain_pieces}
use Rattle.miette_snippet_rules.specs.rules.Highlighting.{AreCallsOn, follows}
use Rattle.miette_runs.specs.rules.Sequences.{erase}
use Rattle.miette_text.specs.rules.ColouredTexts.{AppendsErasing}
use Rattle.miette_graphical_rules.specs.laws.Clean.{AreCleanSettings, IsCleanTree}
use Rattle.miette_graphical_rules.specs.laws.PlainTexts.{IsColouredText, IsRestyledText, plain_settings}
use Rattle.miette_graphical_rules.specs.laws.PlainTexts.{unhighlighted_answers}
use Rattle.miette_graphical_rules.specs.rules.Answers.{unlisted}
use Rattle.miette_graphical_rules.specs.rules.ByLine.{answers_by}
use Rattle.miette_graphical_rules.specs.rules.Calls.{report_calls}
use Rattle.miette_graphical_rules.specs.rules.PossibleAnswers.{Appends, IsTextByCalls, IsTextOf}
use Rattle.miette_graphical_rules.specs.rules.PrintedDiagnostics.{all_read, diagnostics_of}
use Rattle.miette_graphical_rules.specs.rules.GraphicalSettings.{GraphicalSettings, default_settings}
use Rattle.miette_graphical_rules.specs.rules.Snippets.{whole_drawing}
use Rattle.miette_graphical_rules.specs.rules.Text.{report_text}
use Rattle.miette_graphical_rules.specs.views.HandlerState.{HandlerState, follows_of, without_highlighter}
use Rattle.callers.specs.Known.{IsAskedPlainly, in_colours, plain, warning_tree}
use Rattle.callers.proofs.ClauseSteps.{clean}

-- a handler of a theme, with a highlighter
pub themed-settings : {H : Type 0} (theme : GraphicalTheme) (styles : Styles) (made set : HandlerState H) (h : H)
    → theme_of theme ≡ record { characters = unicode_characters; styles = styles }
    → made ≡ without_highlighter (default_settings (theme_of theme)) → set ≡ record made { highlighter = Some h }
    → set.settings ≡ default_settings (record { characters = unicode_characters; styles = styles })
themed-settings {H} theme styles made set h is m e =
    let own : set.settings ≡ made.settings = ap (λ (u : HandlerState H). u.settings) e in
    let first : made.settings ≡ default_settings (theme_of theme) = ap (λ (u : HandlerState H). u.settings) m in
    own ∙ first ∙ ap default_settings is

pub read : (s : GraphicalSettings) (t : Tree) (u : GraphicalSettings) → s ≡ u → t ≡ warning_tree
    → all_read (diagnostics_of u warning_tree) ≡ true → all_read (diagnostics_of s t) ≡ true
read s t u p q r = ap₂ (λ v w. all_read (diagnostics_of v w)) p q ∙ r

-- ---- colours

pub bare_text : (s : GraphicalSettings) (t : Tree) (old new : List ℕ) → s ≡ in_colours → t ≡ warning_tree → old ≡ []
    → AreCleanSettings in_colours
    → (all_read (diagnostics_of s t) ≡ true → AreCleanSettings s → IsCleanTree t
    → AppendsErasing old new (encode_utf8_all (report_text whole_drawing (plain_settings s) t unlisted)))
    → erase new ≡ encode_utf8_all (report_text whole_drawing plain warning_tree unlisted)
bare_text s t old new p q none tame law =
    let own = law (read s t in_colours p q refl) (subst AreCleanSettings (sym p) tame)
    (subst IsCleanTree (sym q) clean) in
    ap erase (own.1 ∙ ap (λ o. o ++ own.0) none) ∙ own.2
    ∙ ap₂ (λ v w. encode_utf8_all (report_text whole_drawing (plain_settings v) w unlisted)) p q

pub may_be_printed : (s : GraphicalSettings) (blank : Bool) (t : Tree) (old new : List ℕ) → s ≡ in_colours → t
    ≡ warning_tree
    → old ≡ [] → AreCleanSettings in_colours
    → (AreCleanSettings s → IsCleanTree t → AppendsOne (IsColouredText whole_drawing s blank t) old new)
    → IsTextOf whole_drawing plain true warning_tree (erase new)
may_be_printed s blank t old new p q none tame law =
    let appended = law (subst AreCleanSettings (sym p) tame) (subst IsCleanTree (sym q) clean) in
    let own : IsColouredText whole_drawing in_colours blank warning_tree appended.text =
    subst (λ w. IsColouredText whole_drawing in_colours blank w appended.text) q
    (subst (λ v. IsColouredText whole_drawing v blank t appended.text) p appended.is_given) in
    let whole : new ≡ appended.text = appended.appended ∙ ap (λ o. o ++ appended.text) none in
    subst (λ text. IsTextOf whole_drawing plain true warning_tree (erase text)) (sym whole) (
      report_text whole_drawing plain warning_tree (unhighlighted_answers own.answers),
      (unhighlighted_answers own.answers, own.possible, refl),
      own.erased,
    )

pub alike_text : (s u : GraphicalSettings) (blank : Bool) (t : Tree) (old new before after : List ℕ) → s ≡ in_colours
    → u ≡ plain → t ≡ warning_tree → old ≡ [] → before ≡ [] → AreCleanSettings in_colours
    → (all_read (diagnostics_of s t) ≡ true → AreCleanSettings s → IsCleanTree t → (others : List ℕ)
    → IsRestyledText whole_drawing s t others → AppendsErasing old new (erase others))
    → Appends whole_drawing u blank t before after → erase new ≡ erase after
alike_text s u blank t old new before after p r q none nothing tame law appended =
    let other : IsTextOf whole_drawing plain blank warning_tree appended.text =
    subst (λ w. IsTextOf whole_drawing plain blank w appended.text) q
    (subst (λ v. IsTextOf whole_drawing v blank t appended.text) r appended.is_given) in
    let restyled_one : IsRestyledText whole_drawing in_colours warning_tree appended.text = (no_styles, blank, other) in
    let own = law (read s t in_colours p q refl) (subst AreCleanSettings (sym p) tame)
    (subst IsCleanTree (sym q) clean) appended.text
    (subst (λ v. IsRestyledText whole_drawing v t appended.text) (sym p)
    (subst (λ w. IsRestyledText whole_drawing in_colours w appended.text) (sym q) restyled_one)) in
    ap erase (own.1 ∙ ap (λ o. o ++ own.0) none) ∙ own.2
    ∙ ap erase (sym (appended.appended ∙ ap (λ o. o ++ appended.text) nothing))

-- ---- a highlighter that leaves lines plain

-- what may follow for it
abbrev pub Plainly : {H : Type 0} → H → List Call → Type 0
Plainly h = AnsweredBy plain_pieces

may-end : {H : Type 0} (h : Option H) → follows Plainly h []
may-end None = tt
may-end (Some h) = tt

pub asked_plainly : {H : Type 0} (h : H) (old : HandlerState H) (after : Option H) (blank : Bool) (t : Tree)
    (before new : List ℕ)
    → old.settings ≡ plain → old.highlighter ≡ Some h → t ≡ warning_tree → before ≡ []
    → AppendsOne (IsTextByCalls whole_drawing old.settings blank (AreCallsOn Plainly old.highlighter after) t) before
    new
    → IsAskedPlainly new
asked_plainly h old after blank t before new p o q none appended =
    let given = appended.is_given in
    let asked = given.1 in
    let answers = asked.0 in
    let happened : follows Plainly old.highlighter (report_calls old.settings t answers ++ []) =
    asked.2 [] (may-end after) in
    let plainly : AnsweredBy plain_pieces (report_calls old.settings t answers) =
    subst (AnsweredBy plain_pieces) (append-nil (report_calls old.settings t answers))
    (subst (λ x. follows Plainly x (report_calls old.settings t answers ++ [])) o happened) in
    record {
      answers = answers;
      plainly = subst (λ v. AnsweredBy plain_pieces (report_calls v warning_tree answers)) p
          (subst (λ w. AnsweredBy plain_pieces (report_calls old.settings w answers)) q plainly);
      is = appended.appended ∙ ap (λ x. x ++ appended.text) none ∙ given.2 ∙ ap encode_utf8_all asked.3
          ∙ ap₂ (λ v w. encode_utf8_all (report_text whole_drawing v w answers)) p q;
    }

pub stateless_text : {H : Type 0} (h : H) (old : HandlerState H) (after : Option H) (t : Tree) (before new : List ℕ)
    → old.settings ≡ plain → old.highlighter ≡ Some h → t ≡ warning_tree → before ≡ []
    → ((answer : List ℕ → List StyledPiece)
    → ((calls : List Call) → follows_of Plainly old calls → AnsweredBy answer calls)
    → follows Plainly after [] → all_read (diagnostics_of old.settings t) ≡ true
    → new ≡ before ++ encode_utf8_all (report_text whole_drawing old.settings t
    (answers_by answer old.settings.layout t)))
    → new ≡ encode_utf8_all (report_text whole_drawing plain warning_tree
    (answers_by plain_pieces plain.layout warning_tree))
stateless_text h old after t before new p o q none law =
    law plain_pieces (λ calls may. subst (λ x. follows Plainly x calls) o may) (may-end after)
    (read old.settings t plain p q refl)
    ∙ ap (λ x. x ++ encode_utf8_all (report_text whole_drawing old.settings t
    (answers_by plain_pieces old.settings.layout t))) none
    ∙ ap₂ (λ v w. encode_utf8_all (report_text whole_drawing v w
    (answers_by plain_pieces v.layout w))) p q
