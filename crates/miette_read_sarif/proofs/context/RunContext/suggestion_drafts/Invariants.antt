use Rattle.std.proofs.Common.{◌≡◌, take, map}
use Rattle.miette_read.specs.views.Values.{values_behind}
use Rattle.miette_read_sarif.specs.rules.Proposals.{suggestion_draft}
use Rattle.miette_read_sarif.specs.views.RunContexts.{run_context}
use Rattle.miette_read_sarif.proofs.context.RunContext.suggestion_drafts.Given as goal

abbrev pub invariant-loop-proposal : goal.invariant-loop-proposal
invariant-loop-proposal g l =
    l.list.items
    ≡ map (suggestion_draft (run_context g.F.Files.found l.self)) (values_behind
    (take l.proposal-index l.proposal-items))
