use Rattle.std.proofs.Common.{[], Bor, map}
use Rattle.serde_json.specs.View.{view}
use Rattle.serde_json.specs.declared.value.Value.{Value}
use Rattle.miette_read.proofs.Steps.{told_more}
use Rattle.miette_read_sarif.specs.rules.Proposals.{suggestion_draft}
use Rattle.miette_read_sarif.specs.views.RunContexts.{run_context}
use Rattle.miette_read_sarif.proofs.Steps.{made_of_all}
use Rattle.miette_read_sarif.proofs.context.RunContext.suggestion_drafts.Goals as goal

pub loop-proposal-preserved : goal.loop-proposal-preserved
loop-proposal-preserved g c =
    let l = c.loop-proposal in
    told_more (λ (v : Bor Value). view v.now) c.as_slice-proposal-items.result.now l.proposal-index
    c.proposal-item.result c.loop-proposal-test.true c.proposal-item.is
    (suggestion_draft (run_context g.F.Files.found c.args.self.now)) [] l.list.items c.push_item.new.list.items
    c.in_ok-draft.draft c.in_ok-draft.ensures c.in_ok-push_item.ensures l.invariant

pub returns : goal.returns
returns g c =
    made_of_all (λ (v : Bor Value). view v.now) (map (suggestion_draft (run_context g.F.Files.found c.args.self.now)))
    c.as_slice-proposal-items.result.now _ c.loop-proposal.proposal-index _ _ c.loop-proposal-test.false
    c.as_slice-proposal-items.ensures.value c.in_ok-proposals.ensures c.loop-proposal.invariant
