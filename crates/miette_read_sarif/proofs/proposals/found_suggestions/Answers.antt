use Rattle.miette_read_sarif.specs.rules.Proposals.{found_suggestion}
use Rattle.miette_read_sarif.proofs.Kept.{kept_by}
use Rattle.miette_read_sarif.proofs.proposals.found_suggestions.Goals as goal

pub loop-draft-preserved : goal.loop-draft-preserved
loop-draft-preserved g c =
    let l = c.loop-draft in
    kept_by c.args.drafts.now l.draft-index c.draft-item.result c.loop-draft-test.true c.draft-item.is
    (found_suggestion (g.F.Files.found c.args.files.now)) l.list.items c.push_suggestion.new.list.items
    c.in_ok-push_suggestion.ensures
    l.invariant
