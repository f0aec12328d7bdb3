-- The indents of a report's texts, by their kinds.
use Rattle.std.specs.Prelude.{List}
use Rattle.miette_runs.specs.rules.Runs.{Fragment}
use Rattle.miette_graphical.specs.declared.indents.TextKind.{TextKind}
use Rattle.miette_graphical.specs.declared.indents.TextKind.TheVariants.{Cause, Fix, Footer, Help, Message}
use Rattle.miette_graphical_rules.specs.rules.GraphicalSettings.{GraphicalSettings}
use Rattle.miette_graphical_rules.specs.rules.Indents.{arrow_indent, bar_indent, fix_indent, footer_indent}
use Rattle.miette_graphical_rules.specs.rules.Indents.{further_fix_indent}
use Rattle.miette_graphical_rules.specs.rules.Indents.{further_help_indent, help_indent, icon_indent, stem_indent}

-- of the first row
abbrev pub initial_indent : GraphicalSettings → TextKind → List Fragment
initial_indent s (Message severity) = icon_indent s severity
initial_indent s (Cause branch) = arrow_indent s branch.outer branch.is_last
initial_indent s Help = help_indent s
initial_indent s Fix = fix_indent s
initial_indent s Footer = footer_indent

-- of further rows
abbrev pub subsequent_indent : GraphicalSettings → TextKind → List Fragment
subsequent_indent s (Message severity) = bar_indent s severity
subsequent_indent s (Cause branch) = stem_indent s branch.outer branch.is_last
subsequent_indent s Help = further_help_indent
subsequent_indent s Fix = further_fix_indent
subsequent_indent s Footer = footer_indent
