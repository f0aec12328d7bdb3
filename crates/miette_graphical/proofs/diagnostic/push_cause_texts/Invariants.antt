use Rattle.std.proofs.Common.{◌≡◌, ◌++◌, length, map, string_bytes}
use Rattle.miette_graphical_rules.specs.rules.Text.{cause_texts}
use Rattle.miette_graphical.specs.views.Painting.{PrintsOnly, settings_of}
use Rattle.miette_graphical.proofs.diagnostic.push_cause_texts.Given as goal

abbrev pub decreases-loop-rest : goal.decreases-loop-rest
decreases-loop-rest g l = length l.rest

abbrev pub invariant-loop-rest : goal.invariant-loop-rest
invariant-loop-rest g l =
    let s = settings_of l.fn.painter in
    (l.painter.out ++ cause_texts s l.outer (map string_bytes l.rest) ≡ l.fn.painter.out
    ++ cause_texts s l.outer (map string_bytes l.list))
    × PrintsOnly l.fn.painter l.painter
