use Rattle.std.proofs.Common.{map, string_bytes, refl, arith}
use Rattle.miette_brief.specs.rules.Github.{note_message_row, note_message_rows}
use Rattle.miette_brief.specs.steps.CommandParts.{located_label_of}
use Rattle.miette_brief.proofs.Commanding.{said_more, said_end}
use Rattle.miette_brief.proofs.github.push_notes.Goals as goal

pub loop-mark-preserved : goal.loop-mark-preserved
loop-mark-preserved g c =
    let is = g.S.SourceCode.source in
    said_more (λ x. note_message_row (located_label_of is x)) (λ xs. note_message_rows (map (located_label_of is) xs))
    c.args.marks.now
    c.loop-mark.mark-index c.mark-item.result c.mark-item.result (string_bytes c.loop-mark.out)
    (string_bytes c.push_note.new.out) _ (λ x more. refl) c.loop-mark-test.true c.mark-item.is
    c.in_ok-push_note.ensures c.loop-mark.invariant

pub returns : goal.returns
returns g c =
    let is = g.S.SourceCode.source in
    said_end (λ xs. note_message_rows (map (located_label_of is) xs)) c.args.marks.now c.loop-mark.mark-index
    (string_bytes c.loop-mark.out) _ refl (omega arith) c.loop-mark.invariant
