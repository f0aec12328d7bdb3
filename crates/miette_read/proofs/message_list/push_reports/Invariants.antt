use Rattle.std.proofs.Common.{◌≡◌, ◌++◌, take, map}
use Rattle.miette_read.specs.views.Values.{viewed}
use Rattle.miette_tree.specs.views.Report.{tree_of}
use Rattle.miette_read.proofs.message_list.push_reports.Given as goal

abbrev pub invariant-loop-message : goal.invariant-loop-message
invariant-loop-message g l =
    map (tree_of g.D.Diagnostic.meaning (λ it. it)) l.list.items
    ≡ map (tree_of g.D.Diagnostic.meaning (λ it. it)) l.initial.list.items
    ++ map (g.M.MessageList.tree (g.F.Files.found l.files)) (viewed (take l.message-index l.messages))
