-- The text that `job` writes, by its arguments and by the handler that they choose.
use Rattle.std.specs.Prelude.{◌≡◌, ℕ, Bool, List, ◌++◌, Option, None, true, false, encode_utf8_all}
use Rattle.miette.specs.rules.Choice.{IsChosen, is_graphical}
use Rattle.miette.specs.rules.Options.{Options}
use Rattle.miette.specs.views.Handler.{HandlerKeeps}
use Rattle.miette.specs.declared.options.handler.MietteHandler.{MietteHandler}
use Rattle.miette.specs.declared.options.handler.MietteHandler.TheVariants.{Graphical, Narrated, Brief}
use Rattle.miette_style.specs.declared.theme.Terminal.{Terminal}
use Rattle.miette_tree.specs.rules.Tree.{Tree}
use Rattle.miette_brief.specs.rules.Report as brief
use Rattle.miette_tree.specs.rules.Reads.{report_in_bounds}
use Rattle.miette_narrated.specs.rules.Report as narrated
use Rattle.miette_graphical_rules.specs.rules.PossibleAnswers.{IsTextByCalls}
use Rattle.miette_graphical_rules.specs.rules.Answers.{unlisted}
use Rattle.miette_graphical_rules.specs.views.HandlerState.{draws_plain}
use Rattle.miette_highlight.specs.rules.HighlighterCalls.{Call}
use Rattle.miette_json.specs.rules.Json.{json_text}
use Rattle.miette_json.specs.rules.JsonReport.{value_of}
use Rattle.miette_graphical_rules.specs.rules.Snippets.{whole_drawing}
use Rattle.miette_graphical_rules.specs.rules.Text.{report_text}
use Rattle.miette_debug.specs.rules.DebugText.{IsDebugText}
use Rattle.miette_snippet_rules.specs.rules.Highlighting.{AreCallsOn, follows}
use Rattle.miette_program.specs.declared.job_handler.JobHandler.{JobHandler}
use Rattle.miette_program.specs.declared.job_handler.JobHandler.TheVariants as chosen
use Rattle.miette_program.specs.declared.language.LanguageHighlighter.{LanguageHighlighter}
use Rattle.miette_program.specs.declared.arguments.Choice.{Choice}
use Rattle.miette_program.specs.declared.arguments.Choice.TheVariants.{Build, Json, Debug}
use Rattle.miette_program.specs.rules.LanguageRules.{TokensFollow}

-- A text that a handler renders for a tree whose sources always read. A graphical report depends on what its
-- highlighter returned, so without a highlighter, or with one that never highlights, there is one such text. A narrated
-- or brief report exists only if every label that it prints is in bounds.
abbrev pub IsBuiltText : {H : Type 0} → (H → Bool) → (Option H → List Call → Type 0) → MietteHandler H → Tree → List ℕ
    → Type 0
IsBuiltText is_blank happen (Graphical it) t text =
    IsTextByCalls whole_drawing it.settings (draws_plain is_blank it) (happen it.highlighter) t text
    × (draws_plain is_blank it ≡ true → text ≡ encode_utf8_all (report_text whole_drawing it.settings t unlisted))
IsBuiltText is_blank happen (Narrated it) t text = (report_in_bounds t ≡ true)
    × (text ≡ narrated.narration it t narrated.unlisted)
IsBuiltText is_blank happen (Brief it) t text = (report_in_bounds t ≡ true) × (text ≡ brief.brief it t brief.unlisted)

-- The same, by the arguments. The highlighter splits source lines into tokens by the rules of its language.
abbrev pub IsJobText : (LanguageHighlighter → Bool) → Choice → Options LanguageHighlighter → Terminal → Tree → List ℕ
    → Type 0
IsJobText is_blank Build options terminal t text =
    (handler : MietteHandler LanguageHighlighter) × IsChosen options terminal handler
    × IsBuiltText is_blank (follows TokensFollow) handler t text
IsJobText is_blank Json options terminal t text = text ≡ json_text (value_of t)
IsJobText is_blank Debug options terminal t text = IsDebugText t text

-- the report is narrated or brief
abbrev pub IsTelling : {H : Type 0} → Choice → Options H → Terminal → Type 0
IsTelling choice options terminal = (choice ≡ Build) × (is_graphical options terminal ≡ false)

-- ---- the handler of a job, what it gives, and what it keeps

-- the arguments choose this handler
abbrev pub IsAsked : {H : Type 0} → Choice → Options H → Terminal → JobHandler H → Type 0
IsAsked c o t chosen.Json = c ≡ Json
IsAsked c o t chosen.Debug = c ≡ Debug
IsAsked c o t (chosen.Built it) = (c ≡ Build) × IsChosen o t it

-- its highlighter, if reports are graphical and it has one
abbrev pub highlighter_of : {H : Type 0} → JobHandler H → Option H
highlighter_of chosen.Json = None
highlighter_of chosen.Debug = None
highlighter_of (chosen.Built (Graphical it)) = it.highlighter
highlighter_of (chosen.Built (Narrated it)) = None
highlighter_of (chosen.Built (Brief it)) = None

-- calls on a highlighter, after some earlier ones, bring it to some state
abbrev pub HappenLater : {H : Type 0} → (H → List Call → Type 0) → Option H → List Call → Type 0
HappenLater {H} may_follow highlighter calls =
    (earlier : List Call) × (after : Option H) × AreCallsOn may_follow highlighter after (earlier ++ calls)

-- A text that it renders for a tree whose sources always read, in the first call or a later one.
abbrev pub IsGiven : {H : Type 0} → (H → Bool) → (H → List Call → Type 0) → JobHandler H → Tree → List ℕ → Type 0
IsGiven is_blank may_follow chosen.Json t text = text ≡ json_text (value_of t)
IsGiven is_blank may_follow chosen.Debug t text = IsDebugText t text
IsGiven is_blank may_follow (chosen.Built it) t text = IsBuiltText is_blank (HappenLater may_follow) it t text

-- only a narrated or brief report is refused, because of a label out of bounds
abbrev pub JobMayRefuse : {H : Type 0} → JobHandler H → Tree → Type 0
JobMayRefuse chosen.Json t = ⊥
JobMayRefuse chosen.Debug t = ⊥
JobMayRefuse (chosen.Built (Graphical it)) t = ⊥
JobMayRefuse (chosen.Built (Narrated it)) t = report_in_bounds t ≡ false
JobMayRefuse (chosen.Built (Brief it)) t = report_in_bounds t ≡ false

-- Rendering doesn't change the handler. Of a built handler, only the highlighter's state may change.
abbrev pub JobHandlerStays : {H : Type 0} → (H → Bool) → JobHandler H → JobHandler H → Type 0
JobHandlerStays is_blank chosen.Json new = new ≡ chosen.Json
JobHandlerStays is_blank chosen.Debug new = new ≡ chosen.Debug
JobHandlerStays is_blank (chosen.Built old) (chosen.Built new) = HandlerKeeps is_blank old new
JobHandlerStays is_blank (chosen.Built old) chosen.Json = ⊥
JobHandlerStays is_blank (chosen.Built old) chosen.Debug = ⊥

-- calls led from the highlighter's state in one handler to its state in the other
pub record IsLed {H : Type 0} (may_follow : H → List Call → Type 0) (old new : JobHandler H) : Type 0 where
  pub calls : List Call
  pub happened : AreCallsOn may_follow (highlighter_of old) (highlighter_of new) calls
