use Rattle.std.proofs.Common.{◌≡◌, [], Bor, Some, None, false, ap, sym, rules}
use Rattle.std.specs.List.{filter_map}
use Rattle.std.specs.Prelude.{if◌then◌else◌}
use Rattle.serde_json.specs.View.{view}
use Rattle.serde_json.specs.declared.value.Value.{Value}
use Rattle.miette_read.specs.views.Values.{values_behind}
use Rattle.miette_read.proofs.Steps.{not_all, all_more, found_more}
use Rattle.miette_read_shellcheck.specs.rules.Comments.{replacement_edit, is_replacement_found}
use Rattle.miette_read_shellcheck.proofs.replacements.replacements_edits.Goals as goal

pub returns-in-None : goal.returns-in-None
returns-in-None g c =
    let files = g.F.Files.found c.args.files.now in
    let name = c.args.name.now in
    let replacements = c.args.replacements.now in
    let lost : is_replacement_found files name (view c.replacement-item.result.now) ≡ false = search rules in
    let some = not_all (λ (v : Bor Value). view v.now) (is_replacement_found files name) replacements
    c.loop-replacement.replacement-index c.replacement-item.result c.loop-replacement-test.true c.replacement-item.is
    lost
    in
    sym (ap (λ b. if b then Some (filter_map (replacement_edit files name) (values_behind replacements)) else None)
    some)

pub loop-replacement-preserved : goal.loop-replacement-preserved
loop-replacement-preserved g c =
    let files = g.F.Files.found c.args.files.now in
    let name = c.args.name.now in
    let l = c.loop-replacement in
    let look = λ (v : Bor Value). view v.now in
    let found : replacement_edit files name (view c.replacement-item.result.now) ≡ Some c.in-Some.edit = search rules in
    let pushed = c.in_ok-push_item-in-Some.ensures in
    record {
      all = all_more look c.args.replacements.now l.replacement-index c.replacement-item.result
          c.loop-replacement-test.true c.replacement-item.is (is_replacement_found files name) l.invariant.all
          (search rules);
      edits = found_more look c.args.replacements.now l.replacement-index c.replacement-item.result
          c.loop-replacement-test.true c.replacement-item.is (replacement_edit files name) [] l.edits.items
          c.push_item.new.list.items c.in-Some.edit found (search rules) l.invariant.edits;
    }
