use Rattle.std.proofs.Common.{map}
use Rattle.serde_json.specs.View.{view}
use Rattle.miette_protocol.specs.rules.Reading.{Source}
use Rattle.miette_read.proofs.Steps.{map_more}
use Rattle.miette_tree.specs.views.Report.{tree_of}
use Rattle.miette_read.proofs.message_list.push_reports.Goals as goal

pub loop-message-preserved : goal.loop-message-preserved
loop-message-preserved g c =
    let l = c.loop-message in
    let value = tree_of g.D.Diagnostic.meaning (λ (it : Source). it) in
    map_more view c.args.messages.now l.message-index c.message-item.result c.loop-message-test.true c.message-item.is
    value (g.M.MessageList.tree (g.F.Files.found c.args.files.now)) (map value c.args.list.now.items) l.list.items
    c.push_item.new.list.items c.in_ok-report.report c.in_ok-report.ensures c.in_ok-push_item.ensures l.invariant
