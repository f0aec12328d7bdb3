-- A painter prints one part after another: each by the settings that it began with.
use Rattle.std.proofs.Common.{◌≡◌, ◌++◌, ℕ, Bool, List, ap, ap₂, ◌∙◌, subst, sym, Option}
use Rattle.miette_highlight.specs.rules.HighlighterCalls.{Call}
use Rattle.miette_protocol.specs.declared.protocol.Severity.{Severity}
use Rattle.miette_snippet_rules.specs.rules.Highlighting.{follows, leaves_plain}
use Rattle.miette_tree.specs.views.Handler.{AppendsOne}
use Rattle.miette_graphical_rules.specs.rules.DiagnosticText.{under_arrow}
use Rattle.miette_graphical.specs.views.Painting.{KeepsPainter, Paints, Printing, PrintsOnly, printing, settings_of}
use Rattle.miette_graphical.specs.declared.painter.Painter.{Painter}

pub keeps_on : {H : Type 0} (is_blank : H → Bool) (old mid new : Painter H) → KeepsPainter is_blank old mid
    → KeepsPainter is_blank mid new → KeepsPainter is_blank old new
keeps_on is_blank old mid new k m = (m.0 ∙ k.0, m.1 ∙ k.1, m.2 ∙ k.2)

pub only_kept : {H : Type 0} (is_blank : H → Bool) (old new : Painter H) → PrintsOnly old new
    → KeepsPainter is_blank old new
only_kept is_blank old new e = (e.0, ap (λ h. leaves_plain is_blank h.now) e.1, ap (λ h. h.ghost_name) e.1)

-- after other parts, and then a text that needs no highlighter
pub paints_after : {H : Type 0} (is_blank : H → Bool) (may_follow : H → List Call → Type 0)
    (what : Printing → List ℕ → Type 0) (old mid told new : Painter H) → KeepsPainter is_blank old mid
    → PrintsOnly mid told
    → Paints is_blank may_follow what told new →
    AppendsOne (what (printing (settings_of old) (leaves_plain is_blank old.highlighter.now)
    (follows may_follow mid.highlighter.now) (follows may_follow new.highlighter.now))) told.out new.out
paints_after is_blank may_follow what old mid told new k e p =
    subst (λ s. AppendsOne (what (printing s (leaves_plain is_blank old.highlighter.now)
    (follows may_follow mid.highlighter.now) (follows may_follow new.highlighter.now))) told.out new.out) (e.0 ∙ k.0)
    (subst (λ b. AppendsOne (what (printing (settings_of told) b (follows may_follow mid.highlighter.now)
    (follows may_follow new.highlighter.now))) told.out new.out) k.1
    (subst (λ h. AppendsOne (what (printing (settings_of told) (leaves_plain is_blank h.now) (follows may_follow h.now)
    (follows may_follow new.highlighter.now))) told.out new.out) e.1 p))

-- before a text that needs no highlighter
pub paints_before : {H : Type 0} (is_blank : H → Bool) (may_follow : H → List Call → Type 0)
    (what : Printing → List ℕ → Type 0) (old mid new : Painter H) → PrintsOnly mid new
    → AppendsOne (what (printing (settings_of old) (leaves_plain is_blank old.highlighter.now)
    (follows may_follow old.highlighter.now) (follows may_follow mid.highlighter.now))) old.out new.out →
    Paints is_blank may_follow what old new
paints_before is_blank may_follow what old mid new e p =
    subst (λ h. AppendsOne (what (printing (settings_of old) (leaves_plain is_blank old.highlighter.now)
    (follows may_follow old.highlighter.now) (follows may_follow h.now))) old.out new.out) (sym e.1) p

pub arrow_after : {H : Type 0} (is_blank : H → Bool) (old mid new : Painter H) (outer : Option Severity) (last : Bool)
    (text : List ℕ) → mid.out ≡ old.out → KeepsPainter is_blank old mid
    → new.out ≡ mid.out ++ under_arrow (settings_of mid) outer last text →
    new.out ≡ old.out ++ under_arrow (settings_of old) outer last text
arrow_after is_blank old mid new outer last text o k e =
    e ∙ ap₂ (λ o s. o ++ under_arrow s outer last text) o k.0
