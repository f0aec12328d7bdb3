-- Underlines in code.
use Rattle.miette_labels.specs.views.ProgramLabels.{drawn_of}
use Rattle.miette_labels.specs.views.ProgramLabels.{no_label}
use Rattle.miette_snippet_rules.specs.rules.Underlines.{Underline, HasPointer}
use Rattle.miette_snippet_rules.specs.declared.underlines.Underline.{Underline as MadeUnderline}

-- the underline that a value of the code represents
abbrev pub underline_of : MadeUnderline → Underline
underline_of m = record {
  from = m.from;
  until = m.until;
  pointer = m.pointer;
  label = drawn_of m.label;
}

-- the pointer is one of the underline's columns
abbrev pub HasOwnPointer : MadeUnderline → Type 0
HasOwnPointer m = HasPointer (underline_of m)

-- an underline in no column
abbrev pub no_underline : MadeUnderline
no_underline = record { from = 0; until = 0; pointer = 0; label = no_label }
