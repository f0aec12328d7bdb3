use Rattle.std.proofs.Common.{◌≡◌, take, map}
use Rattle.std.specs.List.{flat_map}
use Rattle.miette_read.specs.views.Values.{values_behind}
use Rattle.miette_tree.specs.views.Report.{tree_of}
use Rattle.miette_read_sarif.specs.rules.Logs.{run_trees}
use Rattle.miette_read_sarif.proofs.sarif.runs_reports.Given as goal

-- the reports of the runs that are passed
abbrev pub invariant-loop-run : goal.invariant-loop-run
invariant-loop-run g l =
    map (tree_of g.D.Diagnostic.meaning (λ it. it)) l.list.items
    ≡ flat_map (run_trees (g.F.Files.found l.files)) (values_behind (take l.run-index l.run-items))
