use Rattle.std.proofs.Common.{◌≡◌, ◌++◌, ap, ◌∙◌, map, List, string_bytes, subst, sym}
use Rattle.std.specs.Option.{option_map}
use Rattle.miette_labels.specs.rules.Around.{group_context}
use Rattle.miette_labels.specs.rules.Groups.{in_order}
use Rattle.miette_labels.specs.declared.placed.PlacedLabel.{PlacedLabel}
use Rattle.miette_labels.specs.views.Placing.{placement_of}
use Rattle.miette_labels.specs.views.Reads.{AreGroups}
use Rattle.miette_labels.proofs.GroupsOfReads.{are_grouped}
use Rattle.miette_narrated.specs.declared.label_order.LabelOrder.{LabelOrder}
use Rattle.miette_narrated.specs.declared.label_order.RankedLabel.{RankedLabel}
use Rattle.miette_narrated.specs.rules.Snippets.{snippet}
use Rattle.miette_narrated.specs.steps.Ends.{AreEnds, IsOrder}
use Rattle.miette_narrated.specs.steps.LabelSweep.{AreOrdered}
use Rattle.miette_narrated.specs.steps.Conversions.{ranges_of}
use Rattle.miette_narrated.proofs.Reading.{placed_ordered, groups_more, groups_end, snippets_told, unread_group}
use Rattle.miette_narrated.proofs.snippets.push_read.Goals as goal

pub push_snippet-requires-clause-order : goal.push_snippet-requires-clause-order
push_snippet-requires-clause-order g c =
    let source = g.S.SourceCode.source c.args.source.now in
    let placed = c.deref-2.result.now in
    let ordered : AreOrdered placed = placed_ordered c.args.context source c.args.labels.now c.args.reads.now placed
    c.requires.each c.requires.order (ap (map placement_of) c.deref-2.ensures.value ∙ c.in_ok-placed.ensures) in
    let ended : AreEnds placed c.deref-3.result.now =
    subst (λ (es : List RankedLabel). AreEnds placed es) (sym c.deref-3.ensures.value)
    (subst (λ (ps : List PlacedLabel). AreEnds ps c.in_ok-ends.ends.items)
    (c.deref.ensures.value ∙ sym c.deref-2.ensures.value) c.in_ok-ends.ensures) in
    subst (λ (o : LabelOrder). IsOrder o) (sym c.loop-group.invariant.order)
    (record { ordered = ordered; ended = ended })

pub loop-group-preserved : goal.loop-group-preserved
loop-group-preserved g c =
    let source = g.S.SourceCode.source c.args.source.now in
    let l = c.loop-group in
    let placed = c.deref-2.result.now in
    let grouped : AreGroups c.args.context source (in_order c.args.labels.now) c.deref-group-items.result.now =
    are_grouped c.args.context source (in_order c.args.labels.now) _ c.in-Some.groups.items
    c.deref-group-items.result.now c.in_ok-groups.ensures (ap (option_map (λ v. v.items)) c.in-Some.is)
    c.deref-group-items.ensures.value in
    record {
      rows = groups_more c.args.context source (ranges_of placed) (in_order c.args.labels.now)
          c.deref-group-items.result.now l.group-index c.group-item.result
          (string_bytes l.out) (string_bytes c.push_snippet.new.out) _ grouped c.loop-group-test.true c.group-item.is
          (subst (λ (o : LabelOrder). string_bytes c.push_snippet.new.out ≡ string_bytes l.out
          ++ snippet (ranges_of o.placed.now) c.group-item.result.contents) l.invariant.order
          c.in_ok-push_snippet.ensures.rows) l.invariant.rows;
      order = c.push_snippet.ensures.order ∙ l.invariant.order;
      at = c.in_ok-push_snippet.ensures.at;
    }

pub returns-clause-text : goal.returns-clause-text
returns-clause-text g c =
    let source = g.S.SourceCode.source c.args.source.now in
    let l = c.loop-group in
    let placed = c.deref-2.result.now in
    let groups = c.deref-group-items.result.now in
    let grouped : AreGroups c.args.context source (in_order c.args.labels.now) groups =
    are_grouped c.args.context source (in_order c.args.labels.now) _ c.in-Some.groups.items groups
    c.in_ok-groups.ensures (ap (option_map (λ v. v.items)) c.in-Some.is) c.deref-group-items.ensures.value in
    snippets_told c.args.context source c.args.labels.now c.args.reads.now placed groups _ _
    c.data_reach_the_span.ensures c.requires.each c.requires.order
    (ap (map placement_of) c.deref-2.ensures.value ∙ c.in_ok-placed.ensures)
    grouped
    (groups_end (group_context c.args.context (in_order c.args.labels.now)) source (ranges_of placed)
    groups l.group-index (string_bytes l.out) _ c.loop-group-test.false l.invariant.rows)

pub returns-in_default-clause-refused : goal.returns-in_default-clause-refused
returns-in_default-clause-refused g c = λ e.
    unread_group c.args.context (g.S.SourceCode.source c.args.source.now) c.args.labels.now _ c.in_ok-groups.ensures
    (ap (option_map (λ v. v.items)) c.in_default.is)
