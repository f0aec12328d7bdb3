use Rattle.std.proofs.Common.{◌≡◌, take, map}
use Rattle.std.specs.List.{flat_map}
use Rattle.std.specs.Option.{option_copied}
use Rattle.miette_tree.specs.views.Report.{tree_of}
use Rattle.miette_read.specs.rules.Reports.{advice_of}
use Rattle.miette_read.proofs.advice.related_of.Given as goal

abbrev pub invariant-loop-offer : goal.invariant-loop-offer
invariant-loop-offer g l =
    map (tree_of g.D.Diagnostic.meaning (λ it. it)) l.list.items
    ≡ flat_map (advice_of (option_copied l.main)) (take l.offer-index l.offers)
