use Rattle.std.proofs.Common.{Bor}
use Rattle.serde_json.specs.View.{view}
use Rattle.serde_json.specs.declared.value.Value.{Value}
use Rattle.miette_read_gcc.specs.rules.GccReport.{diagnostic_suggestion}
use Rattle.miette_read_gcc.specs.views.GccContexts.{gcc_context}
use Rattle.miette_read_gcc.proofs.Steps.{maybe_more}
use Rattle.miette_read_gcc.proofs.fixits.push_suggestions.Goals as goal

pub loop-note-preserved : goal.loop-note-preserved
loop-note-preserved g c =
    let l = c.loop-note in
    maybe_more (λ (v : Bor Value). view v.now) c.args.notes.now l.note-index c.note-item.result c.loop-note-test.true
    c.note-item.is (diagnostic_suggestion (gcc_context g.F.Files.found c.args.context.now)) c.args.list.now.items
    l.list.items
    c.push_suggestion.new.list.items c.in_ok-push_suggestion.ensures l.invariant
