-- The opportunities that an iterator has left.
use Rattle.std.specs.Prelude.{ℕ, List, chars}
use Rattle.miette_line_breaks.specs.declared.opportunity.BreakOpportunity.{BreakOpportunity}
use Rattle.miette_line_breaks.specs.declared.remaining.LineBreaks.{LineBreaks}
use Rattle.miette_line_breaks.specs.steps.States.{breaks_after}

abbrev pub breaks_left : LineBreaks → List (ℕ × BreakOpportunity)
breaks_left it = breaks_after it.state it.at (chars it.rest.now)
