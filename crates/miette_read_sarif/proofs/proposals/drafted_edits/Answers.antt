use Rattle.std.proofs.Common.{◌≡◌, Some, None, false, ap, sym, rules}
use Rattle.std.specs.List.{filter_map}
use Rattle.std.specs.Prelude.{if◌then◌else◌}
use Rattle.miette_read_sarif.specs.rules.Proposals.{drafted_edit, is_found}
use Rattle.miette_read_sarif.proofs.Kept.{all_more, kept_more, not_all}
use Rattle.miette_read_sarif.proofs.proposals.drafted_edits.Goals as goal

pub returns-in-None : goal.returns-in-None
returns-in-None g c =
    let files = g.F.Files.found c.args.files.now in
    let drafted = c.args.drafted.now in
    let lost : is_found files c.draft-item.result ≡ false = search rules in
    let some = not_all (is_found files) drafted c.loop-draft.draft-index c.draft-item.result c.loop-draft-test.true
    c.draft-item.is lost in
    sym (ap (λ b. if b then Some (filter_map (drafted_edit files) drafted) else None) some)

pub loop-draft-preserved : goal.loop-draft-preserved
loop-draft-preserved g c =
    let files = g.F.Files.found c.args.files.now in
    let l = c.loop-draft in
    let found : drafted_edit files c.draft-item.result ≡ Some c.in-Some.edit = search rules in
    record {
      all = all_more c.args.drafted.now l.draft-index c.draft-item.result c.loop-draft-test.true c.draft-item.is
          (is_found files) l.invariant.all (search rules);
      edits = kept_more c.args.drafted.now l.draft-index c.draft-item.result c.loop-draft-test.true c.draft-item.is
          (drafted_edit files) l.edits.items c.push_item.new.list.items c.in-Some.edit found
          c.in_ok-push_item-in-Some.ensures l.invariant.edits;
    }
