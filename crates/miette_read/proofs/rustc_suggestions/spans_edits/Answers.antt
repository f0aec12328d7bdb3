use Rattle.std.proofs.Common.{◌≡◌, Bor, Some, None, false, ap, sym, rules}
use Rattle.std.specs.List.{filter_map}
use Rattle.std.specs.Prelude.{if◌then◌else◌}
use Rattle.serde_json.specs.View.{view}
use Rattle.serde_json.specs.declared.value.Value.{Value}
use Rattle.miette_read.specs.rules.RustcReport.{span_edit, is_edit_found}
use Rattle.miette_read.specs.views.Values.{values_behind}
use Rattle.miette_read.proofs.Steps.{not_all, found_more_all}
use Rattle.miette_read.proofs.rustc_suggestions.spans_edits.Goals as goal

pub returns-in-None : goal.returns-in-None
returns-in-None g c =
    let files = g.F.Files.found c.args.files.now in
    let spans = c.args.spans.now in
    let lost : is_edit_found files (view c.span-item.result.now) ≡ false = search rules in
    let some = not_all (λ (v : Bor Value). view v.now) (is_edit_found files) spans c.loop-span.span-index
    c.span-item.result
    c.loop-span-test.true c.span-item.is lost in
    sym (ap (λ b. if b then Some (filter_map (span_edit files) (values_behind spans)) else None) some)

pub loop-span-preserved : goal.loop-span-preserved
loop-span-preserved g c =
    let files = g.F.Files.found c.args.files.now in
    let l = c.loop-span in
    let found : span_edit files (view c.span-item.result.now) ≡ Some c.in-Some.edit = search rules in
    let pushed = c.in_ok-push_item-in-Some.ensures in
    let both = found_more_all (λ (v : Bor Value). view v.now) c.args.spans.now l.span-index c.span-item.result
    c.loop-span-test.true c.span-item.is (is_edit_found files) (span_edit files) l.edits.items
    c.push_item.new.list.items
    c.in-Some.edit (search rules) found (search rules) l.invariant.all l.invariant.edits in
    record { all = both.0; edits = both.1 }
