use Rattle.std.proofs.Common.{IfSome, Option, subst}
use Rattle.miette_read.specs.views.Values.{texts}
use Rattle.miette_read_sarif.specs.declared.line_tables.LineTable.{LineTable}
use Rattle.miette_read_sarif.specs.views.Tables.{IsTable}
use Rattle.miette_read_sarif.proofs.StartSteps.{pushed}
use Rattle.miette_read_sarif.proofs.line_tables.push_table.Goals as goal

pub returns-in-Some : goal.returns-in-Some
returns-in-Some g c =
    let is = IsTable (g.F.Files.found c.args.files.now) (texts c.args.ends.now.newlines.items) in
    pushed c.push_item.result is c.args.list.now.items c.push_item.new.list.items c.in-Some.table c.push_item.ensures
    (subst (λ (o : Option LineTable). IfSome o is) c.in-Some.is c.in_ok-table.ensures)
