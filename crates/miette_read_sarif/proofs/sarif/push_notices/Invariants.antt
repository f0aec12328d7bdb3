use Rattle.std.proofs.Common.{◌≡◌, ◌++◌, take, map}
use Rattle.miette_read.specs.views.Values.{values_behind}
use Rattle.miette_tree.specs.views.Report.{tree_of}
use Rattle.miette_read_sarif.specs.rules.Logs.{notification_tree}
use Rattle.miette_read_sarif.specs.views.RunContexts.{run_context}
use Rattle.miette_read_sarif.proofs.sarif.push_notices.Given as goal

abbrev pub invariant-loop-notice : goal.invariant-loop-notice
invariant-loop-notice g l =
    map (tree_of g.D.Diagnostic.meaning (λ it. it)) l.list.items
    ≡ map (tree_of g.D.Diagnostic.meaning (λ it. it)) l.initial.list.items
    ++ map (notification_tree (run_context g.F.Files.found l.context)) (values_behind (take l.notice-index l.notices))
