use Rattle.std.proofs.Common.{string_bytes}
use Rattle.std.proofs.lemmas.Result.{on_ok_weaker}
use Rattle.miette_brief.specs.steps.CommandParts.{located_label_of}
use Rattle.miette_brief.proofs.Commanding.{first_told}
use Rattle.miette_brief.proofs.github.push_notes_from.Goals as goal

pub returns : goal.returns
returns g c =
    on_ok_weaker c.push_notes-3.result (λ h. first_told (located_label_of g.S.SourceCode.source) c.args.marks.now
    c.args.at
    c.parted.result.0.now c.parted.result.1.now c.parted.result.2.now (string_bytes c.args.out.now)
    (string_bytes c.push_notes.new.out) (string_bytes c.push_notes-2.new.out) (string_bytes c.push_notes-3.new.out)
    c.parted.ensures.first c.parted.ensures.before c.parted.ensures.behind c.in_ok-push_notes.ensures
    c.in_ok-push_notes-2.ensures h) c.push_notes-3.ensures
