-- What is known of the bytes that a handler appended for a tree.
use Rattle.std.proofs.Common.{◌≡◌, ◌∙◌, ap, subst, ℕ, Bool, true, List, ◌++◌, Result, Ok, Err, OnOk, encode_utf8_all}
use Rattle.miette_highlight.specs.rules.HighlighterCalls.{Call}
use Rattle.miette_graphical_rules.specs.rules.PossibleAnswers.{Appends, IsTextByCalls, IsTextOf}
use Rattle.miette_graphical_rules.specs.rules.Answers.{unlisted}
use Rattle.miette_graphical_rules.specs.rules.PrintedDiagnostics.{all_read, diagnostics_of}
use Rattle.miette_graphical_rules.specs.rules.GraphicalSettings.{GraphicalSettings}
use Rattle.miette_graphical_rules.specs.rules.Snippets.{whole_drawing}
use Rattle.miette_graphical_rules.specs.rules.Text.{report_text}
use Rattle.miette_graphical_rules.specs.laws.Clean.{AreCleanSettings, IsCleanTree}
use Rattle.miette_graphical_rules.specs.laws.PlainTexts.{IsColouredText, IsRestyledText, plain_settings, restyled}
use Rattle.miette_snippet_laws.specs.laws.PlainStyles.{ArePlain}
use Rattle.miette_style.specs.rules.Themes.{Styles}
use Rattle.miette_graphical_rules.specs.laws.HeldRows.{IsHoldingText}
use Rattle.miette_runs.specs.rules.Sequences.{erase}
use Rattle.miette_text.specs.rules.ColouredTexts.{AppendsErasing}
use Rattle.miette_tree.specs.rules.Tree.{Tree}
use Rattle.miette_tree.specs.views.Handler.{AppendsOne}
use Rattle.miette_graphical_rules.proofs.Only.{only-text}

-- by whatever calls
pub unasked : (s : GraphicalSettings) (blank : Bool) (happen : List Call → Type 0) (t : Tree) (old new : List ℕ)
    → AppendsOne (IsTextByCalls whole_drawing s blank happen t) old new → Appends whole_drawing s blank t old new
unasked s blank happen t old new ok =
    let given = ok.is_given.1 in record {
      text = ok.text;
      is_given = (ok.is_given.0, (given.0, given.1, given.3), ok.is_given.2);
      appended = ok.appended;
    }

pub rendered-ok : {A E : Type 0} (r : Result A E) (s : GraphicalSettings) (blank : Bool) (happen : List Call → Type 0)
    (t : Tree)
    (old new : List ℕ) → OnOk r (AppendsOne (IsTextByCalls whole_drawing s blank happen t) old new)
    → OnOk r (Appends whole_drawing s blank t old new)
rendered-ok (Err e) s blank happen t old new ok = tt
rendered-ok (Ok x) s blank happen t old new ok = unasked s blank happen t old new ok

only-appended : (s : GraphicalSettings) (blank : Bool) (t : Tree) (old new : List ℕ)
    → Appends whole_drawing s blank t old new
    → blank ≡ true → all_read (diagnostics_of s t) ≡ true
    → new ≡ old ++ encode_utf8_all (report_text whole_drawing s t unlisted)
only-appended s blank t old new ok plain reads =
    ok.appended ∙ ap (λ x. old ++ x)
    (only-text s t ok.text (subst (λ b. IsTextOf whole_drawing s b t ok.text) plain ok.is_given) reads)

pub rendered-only : {A E : Type 0} (r : Result A E) (s : GraphicalSettings) (blank : Bool) (t : Tree) (old new : List ℕ)
    → OnOk r (Appends whole_drawing s blank t old new)
    → OnOk r (blank ≡ true → all_read (diagnostics_of s t) ≡ true → new ≡ old
    ++ encode_utf8_all (report_text whole_drawing s t unlisted))
rendered-only (Err e) s blank t old new ok = tt
rendered-only (Ok x) s blank t old new ok = only-appended s blank t old new ok

pub rendered-colours : {A E : Type 0} (r : Result A E) (s : GraphicalSettings) (blank : Bool) (t : Tree)
    (old new : List ℕ)
    → ((s : GraphicalSettings) (blank : Bool) (t : Tree) (bytes : List ℕ) → AreCleanSettings s → IsCleanTree t
    → IsTextOf whole_drawing s blank t bytes → IsColouredText whole_drawing s blank t bytes)
    → OnOk r (Appends whole_drawing s blank t old new) → OnOk r
    (AreCleanSettings s → IsCleanTree t → AppendsOne (IsColouredText whole_drawing s blank t) old new)
rendered-colours (Err e) s blank t old new law ok = tt
rendered-colours (Ok x) s blank t old new law ok = λ settings tree.
    let bytes : List ℕ = ok.text in record {
      text = bytes;
      is_given = law s blank t bytes settings tree ok.is_given;
      appended = ok.appended;
    }

pub rendered-colourless : {A E : Type 0} (r : Result A E) (s : GraphicalSettings) (blank : Bool) (t : Tree)
    (old new : List ℕ)
    → ((s : GraphicalSettings) (blank : Bool) (t : Tree) (bytes : List ℕ) → AreCleanSettings s → IsCleanTree t
    → IsTextOf whole_drawing s blank t bytes → all_read (diagnostics_of s t) ≡ true
    → erase bytes ≡ encode_utf8_all (report_text whole_drawing (plain_settings s) t unlisted))
    → OnOk r (Appends whole_drawing s blank t old new)
    → OnOk r (all_read (diagnostics_of s t) ≡ true → AreCleanSettings s → IsCleanTree t
    → AppendsErasing old new (encode_utf8_all (report_text whole_drawing (plain_settings s) t unlisted)))
rendered-colourless (Err e) s blank t old new law ok = tt
rendered-colourless (Ok x) s blank t old new law ok = λ reads settings tree.
    (ok.text, ok.appended, law s blank t ok.text settings tree ok.is_given reads)

pub rendered-plain : {A E : Type 0} (r : Result A E) (s : GraphicalSettings) (blank : Bool) (t : Tree)
    (old new : List ℕ)
    → ((s : GraphicalSettings) (styles : Styles) (blank : Bool) (t : Tree) (bytes : List ℕ) → AreCleanSettings s
    → IsCleanTree t → ArePlain styles → IsTextOf whole_drawing s blank t bytes → all_read (diagnostics_of s t) ≡ true
    → erase bytes ≡ encode_utf8_all (report_text whole_drawing (restyled s styles) t unlisted))
    → OnOk r (Appends whole_drawing s blank t old new)
    → OnOk r (all_read (diagnostics_of s t) ≡ true → AreCleanSettings s → IsCleanTree t → (styles : Styles)
    → ArePlain styles
    → AppendsErasing old new (encode_utf8_all (report_text whole_drawing (restyled s styles) t unlisted)))
rendered-plain (Err e) s blank t old new law ok = tt
rendered-plain (Ok x) s blank t old new law ok = λ reads settings tree styles are_plain.
    (ok.text, ok.appended, law s styles blank t ok.text settings tree are_plain ok.is_given reads)

pub rendered-themes : {A E : Type 0} (r : Result A E) (s : GraphicalSettings) (blank : Bool) (t : Tree)
    (old new : List ℕ)
    → ((s : GraphicalSettings) (blank : Bool) (t : Tree) (bytes others : List ℕ) → AreCleanSettings s → IsCleanTree t
    → IsTextOf whole_drawing s blank t bytes → all_read (diagnostics_of s t) ≡ true
    → IsRestyledText whole_drawing s t others → erase bytes ≡ erase others)
    → OnOk r (Appends whole_drawing s blank t old new)
    → OnOk r (all_read (diagnostics_of s t) ≡ true → AreCleanSettings s → IsCleanTree t → (others : List ℕ)
    → IsRestyledText whole_drawing s t others → AppendsErasing old new (erase others))
rendered-themes (Err e) s blank t old new law ok = tt
rendered-themes (Ok x) s blank t old new law ok = λ reads settings tree others again.
    (ok.text, ok.appended, law s blank t ok.text others settings tree ok.is_given reads again)

pub rendered-holds : {A E : Type 0} (r : Result A E) (s : GraphicalSettings) (blank : Bool) (t : Tree)
    (old new : List ℕ)
    → ((s : GraphicalSettings) (blank : Bool) (t : Tree) (bytes : List ℕ) → IsTextOf whole_drawing s blank t bytes
    → IsHoldingText whole_drawing s blank t bytes)
    → OnOk r (Appends whole_drawing s blank t old new) → OnOk r
    (AppendsOne (IsHoldingText whole_drawing s blank t) old new)
rendered-holds (Err e) s blank t old new law ok = tt
rendered-holds (Ok x) s blank t old new law ok =
    let bytes : List ℕ = ok.text in record {
      text = bytes;
      is_given = law s blank t bytes ok.is_given;
      appended = ok.appended;
    }
