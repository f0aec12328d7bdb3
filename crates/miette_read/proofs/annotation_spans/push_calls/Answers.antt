use Rattle.std.proofs.Common.{Bor, ap, ◌∙◌, rules}
use Rattle.serde_json.specs.View.{view}
use Rattle.serde_json.specs.declared.value.Value.{Value}
use Rattle.miette_read.specs.rules.Rustc.{macro_annotation}
use Rattle.miette_read.specs.views.Builds.{built}
use Rattle.miette_read.proofs.Steps.{found_more, found_no_more}
use Rattle.miette_read.proofs.annotation_spans.push_calls.Goals.{in-Some+in_ok-push_item, in_default}
use Rattle.miette_read.proofs.annotation_spans.push_calls.Goals as goal

pub loop-span-preserved : goal.loop-span-preserved
loop-span-preserved g c =
    let build = built g.F.Files.found c.args.build.now in
    let l = c.loop-span in
    let initial = c.args.list.now.items in
    let look = λ (v : Bor Value). view v.now in
    elim c.match-branch-2.branch [
      | in-Some+in_ok-push_item w ↦
          found_more look c.args.spans.now l.span-index c.span-item.result c.loop-span-test.true c.span-item.is
          (macro_annotation build) initial l.list.items c.match-branch-2.list.items w.in-Some.told (search rules)
          (ap (λ v. v.items) w.list-is ∙ w.in_ok-push_item.ensures) l.invariant
      | in_default w ↦
          found_no_more look c.args.spans.now l.span-index c.span-item.result c.loop-span-test.true c.span-item.is
          (macro_annotation build) initial c.match-branch-2.list.items (search rules)
          (ap (λ v. v.items) w.list-is ∙ l.invariant)
    ]
