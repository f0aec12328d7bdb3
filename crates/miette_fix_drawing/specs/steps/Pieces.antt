-- Making the pieces of a line.
use Rattle.std.specs.Prelude.{List, map, if◌then◌else◌}
use Rattle.miette_style.specs.declared.style.Style.{Style}
use Rattle.miette_style.specs.rules.Styles.{plain}
use Rattle.miette_labels.specs.rules.Answers.{Highlight}
use Rattle.miette_fix_rows.specs.rules.DiffTexts.{DiffPiece, prepend_piece}
use Rattle.miette_fix_drawing.specs.declared.edit_pieces.DiffPiece.{DiffPiece as MadeDiffPiece}

-- adds characters in front of others
abbrev pub prepend_pieces : MadeDiffPiece → List DiffPiece → List DiffPiece
prepend_pieces p rest = prepend_piece p.changed p.bytes rest

abbrev pub piece : Style → MadeDiffPiece → Highlight
piece style p = record { bytes = p.bytes; style = if p.changed then style else plain }

-- the pieces of characters
abbrev pub told : Style → List DiffPiece → List Highlight
told style diff_pieces = map (λ p. record { bytes = p.bytes; style = if p.changed then style else plain }) diff_pieces
