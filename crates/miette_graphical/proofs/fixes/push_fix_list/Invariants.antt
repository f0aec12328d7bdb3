use Rattle.std.proofs.Common.{◌≡◌, ◌++◌, Bool, Option, length, map}
use Rattle.miette_protocol.specs.rules.Reading.{Source}
use Rattle.miette_graphical_rules.specs.rules.DiagnosticText.{fixes_text}
use Rattle.miette_graphical_rules.specs.rules.Snippets.{drawn_fix}
use Rattle.miette_graphical.specs.steps.FixSources.{IsGivenOver}
use Rattle.miette_graphical.specs.views.Painting.{PrintsOnly, settings_of}
use Rattle.miette_graphical.proofs.fixes.push_fix_list.Given as goal

abbrev pub decreases-loop-rest : goal.decreases-loop-rest
decreases-loop-rest g l = length l.rest

abbrev pub invariant-loop-rest : goal.invariant-loop-rest
invariant-loop-rest g l =
    let s = settings_of l.fn.painter in
    ((source : Option Source) (fails : Bool) → IsGivenOver l.over source fails →
    l.painter.out ++ fixes_text s (map (drawn_fix s source fails) l.rest)
    ≡ l.fn.painter.out ++ fixes_text s (map (drawn_fix s source fails) l.fixes))
    × PrintsOnly l.fn.painter l.painter
