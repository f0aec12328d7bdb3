use Rattle.miette_read.specs.views.Values.{texts}
use Rattle.miette_read_sarif.specs.views.Tables.{AreTables}
use Rattle.miette_read_sarif.proofs.line_tables.tables_of.Given as goal

abbrev pub invariant-loop-name : goal.invariant-loop-name
invariant-loop-name g l = AreTables (g.F.Files.found l.files) (texts l.ends.newlines.items) l.list.items
