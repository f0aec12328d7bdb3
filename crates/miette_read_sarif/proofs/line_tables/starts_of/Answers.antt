use Rattle.std.proofs.Common.{◌∙◌, ap, arith, length}
use Rattle.std.proofs.lemmas.List.{length-drop}
use Rattle.miette_read.specs.views.Values.{texts}
use Rattle.miette_read_sarif.specs.rules.Newlines.{line_size}
use Rattle.miette_read_sarif.proofs.StartSteps.{walked_all, walked_on}
use Rattle.miette_read_sarif.proofs.line_tables.starts_of.Goals as goal

pub loop-size-preserved : goal.loop-size-preserved
loop-size-preserved c =
    let l = c.loop-size in
    let newlines = texts c.args.ends.now.newlines.items in
    let bytes = c.args.bytes.now in
    let sized = c.in-Some.ensures.value ∙ ap (line_size newlines) c.rest_from.ensures in
    record {
      within = omega (
        arith,
        c.in-Some.ensures.within,
        ap length c.rest_from.ensures,
        length-drop l.at bytes,
        l.invariant.within,
      );
      walked = walked_on newlines bytes l.starts.items c.push_item.new.list.items l.at c.in-Some.size
          c.in_ok-push_item.ensures l.invariant.within sized l.invariant.walked;
    }

pub returns : goal.returns
returns c =
    let l = c.loop-size in
    let newlines = texts c.args.ends.now.newlines.items in
    let unsized = c.in_default.ensures.value ∙ ap (line_size newlines) c.rest_from.ensures in
    walked_all newlines c.args.bytes.now l.starts.items c.push_item-2.new.list.items l.at c.in_ok-push_item-2.ensures
    l.invariant.within unsized l.invariant.walked
