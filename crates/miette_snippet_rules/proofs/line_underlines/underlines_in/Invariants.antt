use Rattle.std.proofs.Common.{◌≡◌, ◌++◌, map, drop}
use Rattle.std.specs.List.{All}
use Rattle.miette_snippet_rules.specs.rules.Underlines.{marks, underlines_from}
use Rattle.miette_snippet_rules.specs.views.MadeUnderlines.{underline_of, HasOwnPointer}
use Rattle.miette_labels.specs.views.ProgramLabels.{drawn_of}
use Rattle.miette_snippet_rules.proofs.line_underlines.underlines_in.Given as goal

abbrev pub invariant-loop-label : goal.invariant-loop-label
invariant-loop-label l = record {
  told : map underline_of l.made.items
      ++ underlines_from l.columns l.reached (map drawn_of (drop l.label-index l.placed))
      ≡ marks l.columns (map drawn_of l.placed);
  apart : All HasOwnPointer l.made.items;
}
