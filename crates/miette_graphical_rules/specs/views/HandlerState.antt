-- A graphical handler.
use Rattle.std.specs.Prelude.{◌≡◌, Bool, List, Option, None}
use Rattle.miette_highlight.specs.rules.HighlighterCalls.{Call}
use Rattle.miette_snippet_rules.specs.rules.Highlighting.{AreCallsOn, follows, leaves_plain}
use Rattle.miette_snippet_rules.specs.declared.options.LayoutOptions.{LayoutOptions}
use Rattle.miette_graphical_rules.specs.declared.settings.Wrapping.{Wrapping}
use Rattle.std.specs.List.{AllByRecursion}
use Rattle.miette_tree.specs.rules.Tree.{Tree}
use Rattle.miette_graphical_rules.specs.rules.PrintedDiagnostics.{HoldsOfPrinted, diagnostics_of}
use Rattle.miette_graphical_rules.specs.rules.GraphicalSettings.{GraphicalSettings}
use Rattle.miette_graphical_rules.specs.rules.Sources.{LabelledSource}

-- its settings, and its highlighter if it has one
pub record HandlerState (H : Type 0) : Type 0 where
  pub settings : GraphicalSettings
  pub highlighter : Option H

abbrev pub without_highlighter : {H : Type 0} → GraphicalSettings → HandlerState H
without_highlighter s = record { settings = s; highlighter = None }

-- with another layout, and with other wrapping
abbrev pub laid_out : {H : Type 0} → HandlerState H → LayoutOptions → HandlerState H
laid_out it layout = record it { settings = record it.settings { layout = layout } }

abbrev pub wrapped_by : {H : Type 0} → HandlerState H → Wrapping → HandlerState H
wrapped_by it wrapping = record it { settings = record it.settings { wrapping = wrapping } }

-- whether it leaves source lines plain
abbrev pub draws_plain : {H : Type 0} → (H → Bool) → HandlerState H → Bool
draws_plain is_blank it = leaves_plain is_blank it.highlighter

-- Its settings don't change. A blank highlighter stays blank, and one that isn't blank doesn't become so.
abbrev pub Keeps : {H : Type 0} → (H → Bool) → HandlerState H → HandlerState H → Type 0
Keeps is_blank old new =
    (new.settings ≡ old.settings) × (draws_plain is_blank new ≡ draws_plain is_blank old)

-- what may follow for its highlighter, and calls that take it from one state to another
abbrev pub follows_of : {H : Type 0} → (H → List Call → Type 0) → HandlerState H → List Call → Type 0
follows_of may_follow it = follows may_follow it.highlighter

abbrev pub AreCallsOf : {H : Type 0} → (H → List Call → Type 0) → HandlerState H → HandlerState H → List Call → Type 0
AreCallsOf may_follow old new = AreCallsOn may_follow old.highlighter new.highlighter

-- a statement holds for each source of each diagnostic that it prints for a report
abbrev pub EachPrinted : {H : Type 0} → (GraphicalSettings → LabelledSource → Type 0) → HandlerState H → Tree → Type 0
EachPrinted holds it t = AllByRecursion (HoldsOfPrinted holds it.settings) (diagnostics_of it.settings t)
