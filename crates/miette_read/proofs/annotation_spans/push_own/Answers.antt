use Rattle.std.proofs.Common.{◌++◌, List, Bor, map, ap, ◌∙◌}
use Rattle.std.proofs.lemmas.List.{take_all}
use Rattle.serde_json.specs.View.{view}
use Rattle.serde_json.specs.declared.value.Value.{Value}
use Rattle.miette_read.specs.rules.Rustc.{own_annotation}
use Rattle.miette_read.specs.views.Builds.{built}
use Rattle.miette_read.specs.views.Values.{values_behind}
use Rattle.miette_read.proofs.Steps.{told_more}
use Rattle.miette_read.proofs.annotation_spans.push_own.Goals as goal

pub loop-span-preserved : goal.loop-span-preserved
loop-span-preserved g c =
    let build = built g.F.Files.found c.args.build.now in
    let l = c.loop-span in
    told_more (λ (v : Bor Value). view v.now) c.args.spans.now l.span-index c.span-item.result c.loop-span-test.true
    c.span-item.is (own_annotation build) c.args.list.now.items l.list.items c.push_item.new.list.items
    c.in_ok-told.told
    c.in_ok-told.ensures c.in_ok-push_item.ensures l.invariant

pub returns : goal.returns
returns g c =
    let build = built g.F.Files.found c.args.build.now in
    c.loop-span.invariant
    ∙ ap (λ (vs : List (Bor Value)). c.args.list.now.items ++ map (own_annotation build) (values_behind vs))
    (take_all c.loop-span.span-index c.args.spans.now c.loop-span-test.false)
