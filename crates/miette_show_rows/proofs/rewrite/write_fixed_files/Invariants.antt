use Rattle.std.proofs.Common.{◌≡◌, false, map, string_bytes, take}
use Rattle.miette_show_rows.specs.views.Holding.{fixes_at}
use Rattle.miette_show_rows.proofs.ChangeSteps.{Changing}
use Rattle.miette_show_rows.proofs.rewrite.write_fixed_files.Given as goal

-- no call failed, and the files that are passed are changed
abbrev pub invariant-loop-entry : goal.invariant-loop-entry
invariant-loop-entry g l = record {
  writer_sound : l.streams.writer.failed ≡ false;
  faults_sound : l.streams.faults.failed ≡ false;
  rows : l.streams.rows ≡ l.initial.streams.rows;
  changing : Changing (g.F.Files.found l.files) g.S.FileStore.refuses (fixes_at l.gathered.fixes)
      (map string_bytes (take l.entry-index l.entry-items)) l.all (g.S.FileStore.written l.initial.store)
      (g.S.FileStore.written l.store) (g.W.Write.contents l.initial.streams.writer.inner)
      (g.W.Write.contents l.streams.writer.inner) (g.E.Write.contents l.initial.streams.faults.inner)
      (g.E.Write.contents l.streams.faults.inner);
}
