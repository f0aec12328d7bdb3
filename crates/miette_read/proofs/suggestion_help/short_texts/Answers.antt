use Rattle.std.proofs.Common.{ℕ, List, [], Bor, ap, ◌∙◌, rules}
use Rattle.std.specs.List.{filter_map}
use Rattle.std.proofs.lemmas.List.{map-append, take_all}
use Rattle.serde_json.specs.View.{view}
use Rattle.serde_json.specs.declared.value.Value.{Value}
use Rattle.miette_read.specs.rules.RustcReport.{short_text}
use Rattle.miette_read.specs.views.Values.{values_behind, texts}
use Rattle.miette_read.proofs.Steps.{found_more, found_no_more}
use Rattle.miette_read.proofs.suggestion_help.short_texts.Goals.{in-Some+in_ok-push_item, in_default}
use Rattle.miette_read.proofs.suggestion_help.short_texts.Goals as goal

pub loop-span-preserved : goal.loop-span-preserved
loop-span-preserved c =
    let l = c.loop-span in
    let look = λ (v : Bor Value). view v.now in
    let items = c.as_slice-span-items.result.now in
    elim c.match-short_text.branch [
      | in-Some+in_ok-push_item w ↦
          found_more look items l.span-index c.span-item.result c.loop-span-test.true c.span-item.is short_text []
          (texts l.list.items) (texts c.match-short_text.list.items) w.in-Some.text.now (search rules)
          (ap (λ v. texts v.items) w.list-is ∙ ap texts w.in_ok-push_item.ensures
          ∙ map-append (λ (x : Bor (List ℕ)). x.now) l.list.items _) l.invariant
      | in_default w ↦
          found_no_more look items l.span-index c.span-item.result c.loop-span-test.true c.span-item.is short_text []
          (texts c.match-short_text.list.items) (search rules) (ap (λ v. texts v.items) w.list-is ∙ l.invariant)
    ]

pub returns : goal.returns
returns c =
    c.loop-span.invariant
    ∙ ap (λ (vs : List (Bor Value)). filter_map short_text (values_behind vs))
    (take_all c.loop-span.span-index c.as_slice-span-items.result.now c.loop-span-test.false
    ∙ c.as_slice-span-items.ensures.value)
    ∙ ap (filter_map short_text) c.in_ok-edits.ensures
