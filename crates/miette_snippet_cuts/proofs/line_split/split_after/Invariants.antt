use Rattle.std.proofs.Common.{◌≡◌, ◌++◌, map, length}
use Rattle.miette_snippet_rules.specs.rules.CutLines.{line_parts}
use Rattle.miette_snippet_rules.specs.views.Cuts.{measure}
use Rattle.miette_snippet_cuts.specs.steps.LineParts.{prepend_made}
use Rattle.miette_snippet_cuts.specs.steps.Nearness.{near_by}
use Rattle.miette_snippet_cuts.proofs.line_split.split_after.Given as goal

abbrev pub invariant-loop-made : goal.invariant-loop-made
invariant-loop-made l = record {
  nearness : l.nearness ≡ l.fn.nearness;
  made : l.made.items ++ prepend_made l.reached (map measure
      (line_parts (near_by l.fn.nearness.room l.fn.nearness.ends) l.reached.shown l.walk))
      ≡ prepend_made l.fn.first (map measure
      (line_parts (near_by l.fn.nearness.room l.fn.nearness.ends) l.fn.first.shown l.fn.walk));
}

abbrev pub decreases-loop-made : goal.decreases-loop-made
decreases-loop-made l = length l.walk
