use Rattle.std.proofs.Common.{◌≡◌, ◌+◌, ◌++◌, take}
use Rattle.miette_read.specs.views.Values.{values_behind}
use Rattle.miette_read_gcc.specs.rules.Gcc.{event_annotations}
use Rattle.miette_read_gcc.specs.views.GccContexts.{gcc_context}
use Rattle.miette_read_gcc.proofs.diagnostic_annotations.push_events.Given as goal

-- the number of the next one, and what those that are passed tell
abbrev pub invariant-loop-event : goal.invariant-loop-event
invariant-loop-event g l = record {
  next : l.number ≡ l.event-index + 1;
  told : l.list.items
      ≡ l.initial.list.items
      ++ event_annotations (gcc_context g.F.Files.found l.context) 1 (values_behind (take l.event-index l.events));
}
