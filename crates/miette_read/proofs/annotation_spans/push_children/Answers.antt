use Rattle.std.proofs.Common.{◌++◌, List, Bor, ap, ◌∙◌}
use Rattle.std.specs.List.{flat_map}
use Rattle.std.proofs.lemmas.List.{take_all}
use Rattle.serde_json.specs.View.{view}
use Rattle.serde_json.specs.declared.value.Value.{Value}
use Rattle.miette_read.specs.rules.Rustc.{child_annotations}
use Rattle.miette_read.specs.views.Builds.{built}
use Rattle.miette_read.specs.views.Values.{values_behind}
use Rattle.miette_read.proofs.Steps.{flat_more}
use Rattle.miette_read.proofs.annotation_spans.push_children.Goals as goal

pub loop-child-preserved : goal.loop-child-preserved
loop-child-preserved g c =
    let build = built g.F.Files.found c.args.build.now in
    let l = c.loop-child in
    flat_more (λ (v : Bor Value). view v.now) c.args.children.now l.child-index c.child-item.result
    c.loop-child-test.true c.child-item.is (child_annotations build) c.args.list.now.items l.list.items
    c.push_child.new.list.items c.in_ok-push_child.ensures l.invariant

pub returns : goal.returns
returns g c =
    let build = built g.F.Files.found c.args.build.now in
    c.loop-child.invariant
    ∙ ap (λ (vs : List (Bor Value)). c.args.list.now.items ++ flat_map (child_annotations build) (values_behind vs))
    (take_all c.loop-child.child-index c.args.children.now c.loop-child-test.false)
