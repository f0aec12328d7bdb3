use Rattle.std.proofs.Common.{◌≡◌, ◌++◌, drop}
use Rattle.miette_snippet_cuts.specs.steps.LineParts.{made_with_short, prepend_made}
use Rattle.miette_snippet_cuts.proofs.reach.join_short.Given as goal

abbrev pub invariant-loop-part : goal.invariant-loop-part
invariant-loop-part l =
    l.made.items ++ prepend_made l.reached (made_with_short l.dots (drop l.part-index l.later))
    ≡ made_with_short l.dots l.fn.line_parts
