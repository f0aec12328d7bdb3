use Rattle.miette_read_sarif.specs.rules.Wholes.{other_suggestion}
use Rattle.miette_read_sarif.proofs.Kept.{kept_by}
use Rattle.miette_read_sarif.proofs.whole_file_suggestions.other_suggestions.Goals as goal

pub loop-draft-preserved : goal.loop-draft-preserved
loop-draft-preserved g c =
    let l = c.loop-draft in
    kept_by c.args.drafts.now l.draft-index c.draft-item.result c.loop-draft-test.true c.draft-item.is
    (other_suggestion (g.F.Files.found c.args.files.now) c.args.name.now) l.list.items c.push_other.new.list.items
    c.in_ok-push_other.ensures l.invariant
