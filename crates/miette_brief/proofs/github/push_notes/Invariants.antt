use Rattle.std.proofs.Common.{◌≡◌, ◌++◌, string_bytes, map, drop}
use Rattle.miette_brief.specs.rules.Commands.{message_rows_text}
use Rattle.miette_brief.specs.rules.Github.{note_message_rows}
use Rattle.miette_brief.specs.steps.CommandParts.{located_label_of}
use Rattle.miette_brief.proofs.github.push_notes.Given as goal

abbrev pub invariant-loop-mark : goal.invariant-loop-mark
invariant-loop-mark g l =
    let is = g.S.SourceCode.source in
    string_bytes l.out ++ message_rows_text (note_message_rows (map (located_label_of is) (drop l.mark-index l.marks)))
    ≡ string_bytes l.fn.out ++ message_rows_text (note_message_rows (map (located_label_of is) l.marks))
