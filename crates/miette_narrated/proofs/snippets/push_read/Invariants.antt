use Rattle.miette_labels.specs.rules.Around.{group_context}
use Rattle.miette_labels.specs.rules.Groups.{in_order}
use Rattle.std.proofs.Common.{◌≡◌, ◌++◌, string_bytes, drop, map}
use Rattle.miette_narrated.specs.steps.Conversions.{ranges_of}
use Rattle.miette_narrated.specs.rules.Snippets.{snippets_of}
use Rattle.miette_narrated.specs.steps.LabelSweep.{IsUnderWay}
use Rattle.miette_narrated.proofs.snippets.push_read.Given as goal

abbrev pub invariant-loop-group : goal.invariant-loop-group
invariant-loop-group g l = record {
  rows : string_bytes l.out ++ snippets_of (group_context l.context (in_order l.labels))
      (g.S.SourceCode.source l.source) (ranges_of l.initial.walk.order.placed.now)
      (map (λ x. x.span) (drop l.group-index l.group-items))
      ≡ string_bytes l.fn.out ++ snippets_of (group_context l.context (in_order l.labels))
      (g.S.SourceCode.source l.source) (ranges_of l.initial.walk.order.placed.now)
      (map (λ x. x.span) l.group-items);
  order : l.walk.order ≡ l.initial.walk.order;
  at : IsUnderWay l.walk;
}
