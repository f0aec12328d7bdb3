use Rattle.miette_tree.proofs.tree.Report.from_err.Goals as goal

pub returns : goal.returns
returns g c = c.of_display.ensures
