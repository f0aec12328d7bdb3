use Rattle.std.proofs.Common.{List, [], map, string_bytes}
use Rattle.std.specs.List.{flat_map}
use Rattle.std.specs.Io.KnownBytes.{Appends}
use Rattle.miette_devices.specs.views.Device.{TakesBeginning}
use Rattle.miette_show_rows.specs.views.SelectedFixes.{skipped_in}
use Rattle.miette_show_rows.specs.views.Holding.{fixes_at}
use Rattle.miette_show_rows.specs.rules.FixesFiles.{FileChange, change_row, written_by_change}
use Rattle.miette_show_rows.specs.views.Writing.{Writes}
use Rattle.miette_show_rows.proofs.Beginnings.{none_taken}
use Rattle.miette_show_rows.proofs.ChangeSteps.{writes_nil}
use Rattle.miette_show_rows.proofs.LeftSteps.{changes_after, first_after, none_after, none_held}
use Rattle.miette_show_rows.proofs.NoteEnds.{on_err_of}
use Rattle.miette_show_rows.proofs.rewrite.write_selected.Goals as goal

pub returns-clause-ok : goal.returns-clause-ok
returns-clause-ok g c =
    let those = c.args.counted.now in
    let streams = c.args.streams.now in
    let ended = c.write_fixed_files.new.streams in
    changes_after (g.F.Files.found c.args.files.now) g.S.FileStore.refuses (fixes_at those.fixes.fixes)
    (map string_bytes those.fixes.names.items) (skipped_in those) (g.E.Write.contents streams.faults.inner)
    (g.E.Write.contents c.write_skipped.new.faults.inner) (g.E.Write.contents ended.faults.inner)
    (λ (changes : List FileChange). Writes (g.S.FileStore.written c.args.store.now)
    (g.S.FileStore.written c.write_fixed_files.new.store)
    (flat_map written_by_change changes))
    (λ (changes : List FileChange). Appends (g.W.Write.contents streams.writer.inner)
    (g.W.Write.contents ended.writer.inner) (flat_map change_row changes))
    c.in_ok-all.all c.is_empty.result c.both.result c.in_ok-write_skipped.ensures.said
    (none_held string_bytes c.as_slice.result.now those.files.items c.is_empty.result c.is_empty.ensures
    c.as_slice.ensures.value) c.both.ensures
    c.in_ok-all.ensures.ok

pub returns-in_err-all-clause-first : goal.returns-in_err-all-clause-first
returns-in_err-all-clause-first g c =
    let those = c.args.counted.now in
    let streams = c.args.streams.now in
    let ended = c.write_fixed_files.new.streams in
    on_err_of _ _
    (first_after (g.F.Files.found c.args.files.now) g.S.FileStore.refuses (fixes_at those.fixes.fixes)
    (map string_bytes those.fixes.names.items) (skipped_in those) (g.E.Write.contents streams.faults.inner)
    (g.E.Write.contents c.write_skipped.new.faults.inner) (g.E.Write.contents ended.faults.inner)
    (λ (changes : List FileChange). Writes (g.S.FileStore.written c.args.store.now)
    (g.S.FileStore.written c.write_fixed_files.new.store)
    (flat_map written_by_change changes))
    (λ (changes : List FileChange). TakesBeginning (g.W.Write.contents streams.writer.inner)
    (g.W.Write.contents ended.writer.inner) (flat_map change_row changes))
    c.in_ok-write_skipped.ensures.said c.in_err-all.ensures.first)

pub returns-in_err-write_skipped-clause-first : goal.returns-in_err-write_skipped-clause-first
returns-in_err-write_skipped-clause-first g c =
    let those = c.args.counted.now in
    let streams = c.args.streams.now in
    let stored = g.S.FileStore.written c.args.store.now in
    let wrote = g.W.Write.contents streams.writer.inner in
    on_err_of _ _
    (none_after (g.F.Files.found c.args.files.now) g.S.FileStore.refuses (fixes_at those.fixes.fixes)
    (map string_bytes those.fixes.names.items) (skipped_in those) (g.E.Write.contents streams.faults.inner)
    (g.E.Write.contents c.write_skipped.new.faults.inner) (g.E.Write.contents c.write_skipped.new.faults.inner)
    (λ (changes : List FileChange). Writes stored stored (flat_map written_by_change changes))
    (λ (changes : List FileChange). TakesBeginning wrote wrote (flat_map change_row changes))
    c.in_err-write_skipped.ensures.beginning (writes_nil stored) (none_taken wrote []))
