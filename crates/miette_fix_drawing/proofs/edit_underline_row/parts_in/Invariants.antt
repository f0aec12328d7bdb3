use Rattle.std.proofs.Common.{◌≡◌, ◌++◌, drop, length, map}
use Rattle.miette_labels.specs.views.ProgramLabels.{drawn_of}
use Rattle.miette_fix_rows.specs.rules.DiffTexts.{parts_in}
use Rattle.miette_fix_drawing.proofs.edit_underline_row.parts_in.Given as goal

abbrev pub invariant-loop-span : goal.invariant-loop-span
invariant-loop-span l =
    map drawn_of l.parts.items ++ parts_in l.line.start (length l.line.text.now) l.line.style
    (drop l.span-index l.line.spans.now)
    ≡ parts_in l.line.start (length l.line.text.now) l.line.style l.line.spans.now
