use Rattle.std.proofs.Common.{◌≡◌, Bor, refl, rules}
use Rattle.serde_json.specs.View.{view}
use Rattle.serde_json.specs.declared.value.Value.{Value}
use Rattle.miette_read.proofs.Numbered.{one_more_told}
use Rattle.miette_read_gcc.specs.rules.Gcc.{event_annotation, event_annotations}
use Rattle.miette_read_gcc.specs.views.GccContexts.{gcc_context}
use Rattle.miette_read_gcc.proofs.diagnostic_annotations.push_events.Goals as goal

pub loop-event-preserved : goal.loop-event-preserved
loop-event-preserved g c =
    let l = c.loop-event in
    let context = gcc_context g.F.Files.found c.args.context.now in
    let told : c.in_ok-told.told ≡ event_annotation context l.number (view c.event-item.result.now) = search rules in
    record {
      next = search rules;
      told = one_more_told (event_annotation context) (event_annotations context) (λ n. refl) (λ n d ds. refl)
          (λ (v : Bor Value). view v.now) c.args.events.now l.event-index c.event-item.result c.loop-event-test.true
          c.event-item.is c.args.list.now.items l.list.items c.push_item.new.list.items l.number c.in_ok-told.told
          l.invariant.next told c.in_ok-push_item.ensures l.invariant.told;
    }
