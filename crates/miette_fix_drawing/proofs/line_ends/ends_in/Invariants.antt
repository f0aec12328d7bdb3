use Rattle.std.proofs.Common.{◌≡◌, ◌++◌, drop, length}
use Rattle.std.specs.List.{filter}
use Rattle.miette_fix_rows.specs.rules.DiffTexts.{is_on}
use Rattle.miette_fix_drawing.specs.steps.Ends.{all_ends}
use Rattle.miette_fix_drawing.proofs.line_ends.ends_in.Given as goal

abbrev pub invariant-loop-span : goal.invariant-loop-span
invariant-loop-span l =
    l.ends.items ++ all_ends l.columns l.line.start (length l.line.text.now)
    (filter (is_on l.line.start l.line.text.now) (drop l.span-index l.line.spans.now))
    ≡ all_ends l.columns l.line.start (length l.line.text.now)
    (filter (is_on l.line.start l.line.text.now) l.line.spans.now)
