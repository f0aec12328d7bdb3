use Rattle.std.proofs.Common.{◌≡◌, ◌++◌, take, map}
use Rattle.miette_tree.specs.views.Report.{tree_of}
use Rattle.miette_read.specs.rules.Reports.{advice}
use Rattle.miette_read.specs.views.Edits.{edits_behind}
use Rattle.miette_read.proofs.advice.push_advice.Given as goal

abbrev pub invariant-loop-edit : goal.invariant-loop-edit
invariant-loop-edit g l =
    map (tree_of g.D.Diagnostic.meaning (λ it. it)) l.list.items
    ≡ map (tree_of g.D.Diagnostic.meaning (λ it. it)) l.initial.list.items
    ++ map (advice l.offer) (edits_behind (take l.edit-index l.edit-items))
