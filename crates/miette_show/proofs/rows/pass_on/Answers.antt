use Rattle.std.proofs.Common.{◌≡◌, ◌∙◌, Err, ap, subst, sym, rules}
use Rattle.std.specs.Io.KnownBytes.{Appends}
use Rattle.miette_devices.proofs.WriteResults.{of-error}
use Rattle.miette_devices.specs.declared.fault.ProgramError.TheVariants.{Write}
use Rattle.miette_devices.specs.views.Device.{TakesBeginning}
use Rattle.miette_show.specs.rules.ShownRow.{passed_on}
use Rattle.miette_show_rows.specs.rules.Notes.{kind_is_unread, note_of, note_row}
use Rattle.miette_show_rows.specs.declared.verdict.RowKind.{RowKind}
use Rattle.miette_show_rows.proofs.Beginnings.{taken_in, taken_then}
use Rattle.miette_show.proofs.rows.pass_on.Goals as goal

pub returns-in_err-note_unread_row-in-Unread-clause-beginning
    : goal.returns-in_err-note_unread_row-in-Unread-clause-beginning
returns-in_err-note_unread_row-in-Unread-clause-beginning g c = λ e.
    let old = g.E.Write.contents c.args.faults.now.inner in
    let new = g.E.Write.contents c.note_unread_row.new.faults.inner in
    let is : c.from_residual.result ≡ Err c.in_err-note_unread_row-in-Unread.field-0.0 = search rules in
    let failed : Err c.in_err-note_unread_row-in-Unread.field-0.0 ≡ Err Write = sym is ∙ e in
    let same : c.in_err-note_unread_row-in-Unread.field-0.0 ≡ Write = cc in
    let noted = subst (λ (k : RowKind). TakesBeginning old new (note_of c.args.number (kind_is_unread k)))
    c.in-Unread.is
    (c.in_err-note_unread_row-in-Unread.ensures.beginning (ap Err same))
    in
    subst (λ (k : RowKind). TakesBeginning old new (passed_on c.args.number k c.args.row.now)) (sym c.in-Unread.is)
    (taken_in old new (note_row c.args.number) c.args.row.now noted)

pub returns-in_ok-note_unread_row-in-Unread-clause-beginning
    : goal.returns-in_ok-note_unread_row-in-Unread-clause-beginning
returns-in_ok-note_unread_row-in-Unread-clause-beginning g c = λ e.
    let old = g.E.Write.contents c.args.faults.now.inner in
    let mid = g.E.Write.contents c.note_unread_row.new.faults.inner in
    let new = g.E.Write.contents c.write_whole-in-Unread.new.writer.inner in
    let noted = subst (λ (k : RowKind). Appends old mid (note_of c.args.number (kind_is_unread k))) c.in-Unread.is
    c.in_ok-note_unread_row-in-Unread.ensures.noted
    in
    subst (λ (k : RowKind). TakesBeginning old new (passed_on c.args.number k c.args.row.now)) (sym c.in-Unread.is)
    (taken_then old mid new (note_row c.args.number) c.args.row.now noted
    (of-error c.write_whole-in-Unread.result Write _ c.write_whole-in-Unread.ensures.err e))
