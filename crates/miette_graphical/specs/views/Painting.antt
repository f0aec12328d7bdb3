-- What a painter prints, and what it keeps.
use Rattle.std.specs.Prelude.{◌≡◌, ℕ, Bool, List}
use Rattle.miette_highlight.specs.rules.HighlighterCalls.{Call, Leads}
use Rattle.miette_snippet_rules.specs.rules.Highlighting.{follows, leaves_plain}
use Rattle.miette_tree.specs.views.Handler.{AppendsOne}
pub use Rattle.miette_tree.specs.views.Owned.{opt_ref_source}
use Rattle.miette_graphical_rules.specs.rules.GraphicalSettings.{GraphicalSettings}
use Rattle.miette_graphical_rules.specs.views.GraphicalSettings.{handler_settings}
use Rattle.miette_graphical.specs.declared.painter.Painter.{Painter}
use Rattle.miette_snippet_rules.specs.declared.options.SnippetSettings.{SnippetSettings}
use Rattle.miette_style.specs.rules.Themes.{theme_of}

-- the handler's settings with the painter's width
abbrev pub settings_of : {H : Type 0} → Painter H → GraphicalSettings
settings_of painter = record (handler_settings painter.settings.now) { width = painter.width }

-- the same with the theme and the layout of these
abbrev pub settings_with : GraphicalSettings → SnippetSettings → GraphicalSettings
settings_with s drawn_with = record s { theme = theme_of drawn_with.theme.now; layout = drawn_with.layout.now }

-- How a part of a report is printed: the settings, whether source lines stay plain, and which calls on the highlighter
-- happen.
pub record Printing : Type 1 where
  pub settings : GraphicalSettings
  pub blank : Bool
  pub happen : List Call → Type 0

-- the calls take a highlighter from one state to another
abbrev pub printing : GraphicalSettings → Bool → (List Call → Type 0) → (List Call → Type 0) → Printing
printing s blank begun now = record { settings = s; blank = blank; happen = λ calls. Leads begun calls now }

-- what a painter prints while it goes from one state to another
abbrev pub printing_of : {H : Type 0} → (H → Bool) → (H → List Call → Type 0) → Painter H → Painter H → Printing
printing_of is_blank may_follow old new =
    printing (settings_of old) (leaves_plain is_blank old.highlighter.now) (follows may_follow old.highlighter.now)
    (follows may_follow new.highlighter.now)

-- a painter appends one of these texts to its output
abbrev pub Paints : {H : Type 0} → (H → Bool) → (H → List Call → Type 0) → (Printing → List ℕ → Type 0) → Painter H →
    Painter H → Type 0
Paints is_blank may_follow what old new = AppendsOne (what (printing_of is_blank may_follow old new)) old.out new.out

-- Settings and width don't change. A blank highlighter stays blank, and one that isn't blank doesn't become so. It is
-- still the one that was borrowed.
abbrev pub KeepsPainter : {H : Type 0} → (H → Bool) → Painter H → Painter H → Type 0
KeepsPainter is_blank old new =
    (settings_of new ≡ settings_of old)
    × (leaves_plain is_blank new.highlighter.now ≡ leaves_plain is_blank old.highlighter.now)
    × (new.highlighter.ghost_name ≡ old.highlighter.ghost_name)

-- only the output changes
abbrev pub PrintsOnly : {H : Type 0} → Painter H → Painter H → Type 0
PrintsOnly old new = (settings_of new ≡ settings_of old) × (new.highlighter ≡ old.highlighter)
