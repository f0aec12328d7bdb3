use Rattle.std.proofs.Common.{◌≡◌, Bor, Some, None, false, ap, sym, rules}
use Rattle.std.specs.List.{filter_map}
use Rattle.std.specs.Prelude.{if◌then◌else◌}
use Rattle.serde_json.specs.View.{view}
use Rattle.serde_json.specs.declared.value.Value.{Value}
use Rattle.miette_read.specs.views.Values.{values_behind}
use Rattle.miette_read.proofs.Steps.{not_all, found_more_all}
use Rattle.miette_read_gcc.specs.rules.GccReport.{fixit_edit, is_fixit_found}
use Rattle.miette_read_gcc.specs.views.GccContexts.{gcc_context}
use Rattle.miette_read_gcc.proofs.fixits.fixits_edits.Goals as goal

pub returns-in-None : goal.returns-in-None
returns-in-None g c =
    let context = gcc_context g.F.Files.found c.args.context.now in
    let fixits = c.args.fixits.now in
    let lost : is_fixit_found context (view c.fixit-item.result.now) ≡ false = search rules in
    let some = not_all (λ (v : Bor Value). view v.now) (is_fixit_found context) fixits c.loop-fixit.fixit-index
    c.fixit-item.result c.loop-fixit-test.true c.fixit-item.is lost in
    sym (ap (λ b. if b then Some (filter_map (fixit_edit context) (values_behind fixits)) else None) some)

pub loop-fixit-preserved : goal.loop-fixit-preserved
loop-fixit-preserved g c =
    let context = gcc_context g.F.Files.found c.args.context.now in
    let l = c.loop-fixit in
    let found : fixit_edit context (view c.fixit-item.result.now) ≡ Some c.in-Some.edit = search rules in
    let pushed = c.in_ok-push_item-in-Some.ensures in
    let both = found_more_all (λ (v : Bor Value). view v.now) c.args.fixits.now l.fixit-index c.fixit-item.result
    c.loop-fixit-test.true c.fixit-item.is (is_fixit_found context) (fixit_edit context) l.edits.items
    c.push_item.new.list.items
    c.in-Some.edit (search rules) found (search rules) l.invariant.all l.invariant.edits in
    record { all = both.0; edits = both.1 }
