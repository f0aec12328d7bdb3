-- Texts, refusals, settings and highlighter calls of a handler: those of the kind that was chosen.
use Rattle.std.specs.Prelude.{◌≡◌, ℕ, Bool, List, false}
use Rattle.miette_tree.specs.rules.Tree.{Tree}
use Rattle.miette_tree.specs.rules.Reads.{report_in_bounds}
use Rattle.miette_brief.specs.rules.PossibleAnswers as brief
use Rattle.miette_narrated.specs.rules.PossibleAnswers.{IsNarrated}
use Rattle.miette_graphical_rules.specs.rules.PossibleAnswers.{IsTextByCalls, IsTextOf}
use Rattle.miette_graphical_rules.specs.views.HandlerState.{AreCallsOf, draws_plain}
use Rattle.miette_highlight.specs.rules.HighlighterCalls.{Call}
use Rattle.miette_graphical_rules.specs.rules.PrintedDiagnostics.{labels_read, diagnostics_of}
use Rattle.miette_graphical_rules.specs.rules.Snippets.{whole_drawing}
use Rattle.miette.specs.declared.options.handler.MietteHandler.{MietteHandler}
use Rattle.miette.specs.declared.options.handler.MietteHandler.TheVariants.{Graphical, Narrated, Brief}

abbrev pub HandlerGives : {H : Type 0} → (H → Bool) → MietteHandler H → Tree → List ℕ → Type 0
HandlerGives is_blank (Graphical it) t = IsTextOf whole_drawing it.settings (draws_plain is_blank it) t
HandlerGives is_blank (Narrated it) t = IsNarrated it t
HandlerGives is_blank (Brief it) t = brief.IsBrief it t

abbrev pub HandlerRefuses : {H : Type 0} → MietteHandler H → Tree → Type 0
HandlerRefuses (Graphical it) t = labels_read (diagnostics_of it.settings t) ≡ false
HandlerRefuses (Narrated it) t = report_in_bounds t ≡ false
HandlerRefuses (Brief it) t = report_in_bounds t ≡ false

-- The kind stays. A graphical handler also keeps its settings, and whether it leaves lines plain.
abbrev pub HandlerKeeps : {H : Type 0} → (H → Bool) → MietteHandler H → MietteHandler H → Type 0
HandlerKeeps is_blank (Graphical old) (Graphical new) =
    (new.settings ≡ old.settings) × (draws_plain is_blank new ≡ draws_plain is_blank old)
HandlerKeeps is_blank (Narrated old) (Narrated new) = new ≡ old
HandlerKeeps is_blank (Brief old) (Brief new) = new ≡ old
HandlerKeeps is_blank (Graphical old) (Narrated new) = ⊥
HandlerKeeps is_blank (Graphical old) (Brief new) = ⊥
HandlerKeeps is_blank (Narrated old) (Graphical new) = ⊥
HandlerKeeps is_blank (Narrated old) (Brief new) = ⊥
HandlerKeeps is_blank (Brief old) (Graphical new) = ⊥
HandlerKeeps is_blank (Brief old) (Narrated new) = ⊥

-- One of the texts. For a graphical handler it depends on the answers of its highlighter to these calls, which take the
-- highlighter from its old state to its new one.
abbrev pub HandlerAsks : {H : Type 0} → (H → Bool) → (H → List Call → Type 0) → MietteHandler H → MietteHandler H → Tree
    → List ℕ → Type 0
HandlerAsks is_blank may_follow (Graphical old) (Graphical new) t text =
    IsTextByCalls whole_drawing old.settings (draws_plain is_blank old) (AreCallsOf may_follow old new) t text
HandlerAsks is_blank may_follow (Narrated old) (Narrated new) t text = IsNarrated old t text
HandlerAsks is_blank may_follow (Brief old) (Brief new) t text = brief.IsBrief old t text
HandlerAsks is_blank may_follow (Graphical old) (Narrated new) t text = ⊥
HandlerAsks is_blank may_follow (Graphical old) (Brief new) t text = ⊥
HandlerAsks is_blank may_follow (Narrated old) (Graphical new) t text = ⊥
HandlerAsks is_blank may_follow (Narrated old) (Brief new) t text = ⊥
HandlerAsks is_blank may_follow (Brief old) (Graphical new) t text = ⊥
HandlerAsks is_blank may_follow (Brief old) (Narrated new) t text = ⊥

-- One of the texts, for such calls that end in some state.
abbrev pub GivesByCalls : {H : Type 0} → (H → Bool) → (H → List Call → Type 0) → MietteHandler H → Tree → List ℕ
    → Type 0
GivesByCalls {H} is_blank may_follow handler t text =
    (after : MietteHandler H) × HandlerAsks is_blank may_follow handler after t text
