-- The results of printing a diagnostic's snippets.
use Rattle.std.specs.Prelude.{◌≡◌, true, Bool, List, [], Option, None, IfSome}
use Rattle.std.specs.Option.{option_map}
use Rattle.miette_protocol.specs.views.Meaning.{Label}
use Rattle.miette_protocol.specs.rules.Reading.{Source}
use Rattle.miette_highlight.specs.rules.HighlighterCalls.{Call}
use Rattle.miette_protocol.specs.declared.error.RenderError.{RenderError}
use Rattle.miette_protocol.specs.declared.error.RenderError.TheVariants as errors
use Rattle.miette_labels.specs.rules.Answers.{Answers, AlwaysReads}
use Rattle.miette_labels.specs.rules.Around.{group_context}
use Rattle.miette_labels.specs.rules.Groups.{in_order, groups_of}
use Rattle.miette_snippet_rules.specs.rules.Highlighting.{AreCallsOn, SnippetsHavePieces}
use Rattle.miette_snippet_rules.specs.rules.Highlighting.{calls_of_labels, leaves_plain, snippet_calls}
use Rattle.miette_snippet_rules.specs.rules.SnippetLayout.{end_lines, rows_of_labels, snippet_rows}
use Rattle.miette_style.specs.views.Printouts.{Printout, ◌⊕◌}
use Rattle.miette_style.specs.views.Tokens.{rows_tokens}
use Rattle.miette_snippet_rules.specs.rules.SnippetSettings.{SnippetSettings}

-- How snippets are printed: the settings, whether lines stay plain, and which calls on the highlighter happen.
pub record SnippetPrinting : Type 1 where
  pub settings : SnippetSettings
  pub blank : Bool
  pub happen : List Call → Type 0

-- with these settings, while the highlighter goes from one state to another
abbrev pub snippet_printing : {H : Type 0} → (H → Bool) → (H → List Call → Type 0) → SnippetSettings → Option H
    → Option H →
    SnippetPrinting
snippet_printing is_blank may_follow s old new =
    record { settings = s; blank = leaves_plain is_blank old; happen = AreCallsOn may_follow old new }

-- What is printed with the context lines of these settings, or that nothing is: the rows for some answers of the source
-- and the highlighter. Reads of a source that always reads don't fail, and plain lines have no pieces. So there is only
-- one such result if both hold. The highlighter gave the answers by calls that happen.
pub record GivesAround (by : SnippetPrinting) (source : Source) (labels : List Label) (before : Printout)
    (page : Option Printout) : Type 0 where
  pub answers : Answers
  pub always : source.always_reads ≡ true → AlwaysReads answers
  pub pieces : SnippetsHavePieces (group_context by.settings.layout.context_lines (in_order labels)) by.blank source
      (groups_of by.settings.layout.context_lines source answers.join_fails (in_order labels)) answers.pieces
  pub plain : by.blank ≡ true → answers.pieces ≡ []
  pub calls : IfSome page (λ made. by.happen (snippet_calls by.settings.layout.context_lines source labels answers))
  pub is : page ≡ option_map (λ rows. before ⊕ rows_tokens rows) (snippet_rows by.settings source labels answers)

-- What is printed with these settings. Labels at the end of the source may add a line of context.
pub record MayGive (by : SnippetPrinting) (source : Source) (labels : List Label) (before : Printout)
    (page : Option Printout) : Type 0 where
  pub answers : Answers
  pub always : source.always_reads ≡ true → AlwaysReads answers
  pub pieces : SnippetsHavePieces (group_context (end_lines by.settings.layout answers.end_fails source labels)
      (in_order labels)) by.blank source
      (groups_of (end_lines by.settings.layout answers.end_fails source labels) source answers.join_fails
      (in_order labels)) answers.pieces
  pub plain : by.blank ≡ true → answers.pieces ≡ []
  pub calls : IfSome page (λ made. by.happen (calls_of_labels by.settings.layout source labels answers))
  pub is : page ≡ option_map (λ rows. before ⊕ rows_tokens rows) (rows_of_labels by.settings source labels answers)

-- a refusal means that there are no rows; allocation may fail anywhere
abbrev pub RefusesWith : SnippetPrinting → Source → List Label → Printout → RenderError → Type 0
RefusesWith by source labels before errors.Refused = MayGive by source labels before None
RefusesWith by source labels before errors.Memory = Unit {0}
