-- Texts, refusals, settings and highlighter calls of a form's handler.
use Rattle.std.specs.Prelude.{◌≡◌, ℕ, Bool, true, false, List, Some}
use Rattle.miette_highlight.specs.rules.HighlighterCalls.{Call}
use Rattle.miette_json.specs.rules.JsonText.{IsJsonOf}
use Rattle.miette_style.specs.declared.theme.Terminal.{Terminal}
use Rattle.miette_tree.specs.rules.Tree.{Tree}
use Rattle.miette.specs.rules.Choice.{IsChosen}
use Rattle.miette.specs.rules.Options.{Options}
use Rattle.miette.specs.views.Handler.{HandlerAsks, HandlerGives, HandlerKeeps, HandlerRefuses}
use Rattle.miette.specs.declared.reporter.form.Form.{Form}
use Rattle.miette.specs.declared.reporter.form.Form.TheVariants.{Pictures, Narrated, Brief, JsonArray, JsonRows}
use Rattle.miette.specs.declared.reporter.handler.FormHandler.{FormHandler}
use Rattle.miette.specs.declared.reporter.handler.FormHandler.TheVariants.{Chosen, Json}

abbrev pub GivesInForm : {H : Type 0} → (H → Bool) → FormHandler H → Tree → List ℕ → Type 0
GivesInForm is_blank (Chosen it) t = HandlerGives is_blank it t
GivesInForm is_blank (Json it) t = IsJsonOf t

-- JSON is never refused
abbrev pub RefusesInForm : {H : Type 0} → FormHandler H → Tree → Type 0
RefusesInForm (Chosen it) t = HandlerRefuses it t
RefusesInForm (Json it) t = ⊥

abbrev pub KeepsInForm : {H : Type 0} → (H → Bool) → FormHandler H → FormHandler H → Type 0
KeepsInForm is_blank (Chosen old) (Chosen new) = HandlerKeeps is_blank old new
KeepsInForm is_blank (Chosen old) (Json new) = ⊥
KeepsInForm is_blank (Json old) (Chosen new) = ⊥
KeepsInForm is_blank (Json old) (Json new) = new ≡ old

-- One of the texts, for some answers of the highlighter to such calls. JSON makes none.
abbrev pub AsksInForm : {H : Type 0} → (H → Bool) → (H → List Call → Type 0) → FormHandler H → FormHandler H → Tree
    → List ℕ → Type 0
AsksInForm is_blank may_follow (Chosen old) (Chosen new) t text = HandlerAsks is_blank may_follow old new t text
AsksInForm is_blank may_follow (Chosen old) (Json new) t text = ⊥
AsksInForm is_blank may_follow (Json old) (Chosen new) t text = ⊥
AsksInForm is_blank may_follow (Json old) (Json new) t text = IsJsonOf t text

-- the options of a form, which take precedence over the given ones
abbrev pub options_in : {H : Type 0} → Form → Options H → Options H
options_in Pictures o = o
options_in Narrated o = record o { brief = false; narrated = Some true }
options_in Brief o = record o { brief = true }
options_in JsonArray o = o
options_in JsonRows o = o

abbrev pub is_json : Form → Bool
is_json Pictures = false
is_json Narrated = false
is_json Brief = false
is_json JsonArray = true
is_json JsonRows = true

-- the handler that form, options and a terminal choose
abbrev pub IsChosenInForm : {H : Type 0} → Form → Options H → Terminal → FormHandler H → Type 0
IsChosenInForm form o t (Chosen it) = (is_json form ≡ false) × IsChosen (options_in form o) t it
IsChosenInForm form o t (Json it) = is_json form ≡ true
