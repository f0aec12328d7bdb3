use Rattle.std.proofs.Common.{Bor, ap, ◌∙◌, rules}
use Rattle.serde_json.specs.View.{view}
use Rattle.serde_json.specs.declared.value.Value.{Value}
use Rattle.miette_read.specs.rules.RustcReport.{child_suggestion}
use Rattle.miette_read.proofs.Steps.{found_more, found_no_more}
use Rattle.miette_read.proofs.rustc_suggestions.push_suggestions.Goals.{in-Some+in_ok-push_item, in_default}
use Rattle.miette_read.proofs.rustc_suggestions.push_suggestions.Goals as goal

pub loop-child-preserved : goal.loop-child-preserved
loop-child-preserved g c =
    let files = g.F.Files.found c.args.files.now in
    let l = c.loop-child in
    let initial = c.args.list.now.items in
    let look = λ (v : Bor Value). view v.now in
    elim c.match-branch-2.branch [
      | in-Some+in_ok-push_item w ↦
          found_more look c.args.children.now l.child-index c.child-item.result c.loop-child-test.true c.child-item.is
          (child_suggestion files) initial l.list.items c.match-branch-2.list.items w.in-Some.offer (search rules)
          (ap (λ v. v.items) w.list-is ∙ w.in_ok-push_item.ensures) l.invariant
      | in_default w ↦
          found_no_more look c.args.children.now l.child-index c.child-item.result c.loop-child-test.true
          c.child-item.is (child_suggestion files) initial c.match-branch-2.list.items (search rules)
          (ap (λ v. v.items) w.list-is ∙ l.invariant)
    ]
