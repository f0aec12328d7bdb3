use Rattle.std.proofs.Common.{◌≡◌, ◌++◌, All, List, inl, inr, map, refl, string_bytes, subst}
use Rattle.std.specs.List.{flat_map}
use Rattle.std.specs.Io.KnownBytes.{Appends}
use Rattle.miette_devices.specs.views.Device.{TakesBeginning}
use Rattle.miette_show_rows.specs.rules.ApplicableFixes.{RowFixes}
use Rattle.miette_show_rows.specs.rules.Looking.{IsFoundBy}
use Rattle.miette_show_rows.specs.rules.FixesFiles.{are_all_written, change_row, written_by_change}
use Rattle.miette_show_rows.specs.views.Reading.{left_of}
use Rattle.miette_show_rows.specs.views.Writing.{Writes}
use Rattle.miette_show_rows.proofs.Going.{continues_value}
use Rattle.miette_show_rows.proofs.MendEnds.{all_given, first_of, from_none, mends_of}
use Rattle.miette_show_rows.proofs.NoteEnds.{on_err_of}
use Rattle.miette_show_rows.proofs.fix_files.fix_files_on.Goals as goal

pub returns-clause-ok : goal.returns-clause-ok
returns-clause-ok g c =
    let first = c.args.files.now in
    let mid = c.gather_rows.new.files in
    let last = c.load_listed_files.new.files in
    let found = g.F.Files.found in
    let knows = g.F.FileLoader.knows in
    let streams = c.args.streams.now in
    let ended = c.write_selected.new.streams in
    let stored = g.S.FileStore.written in
    let wrote = g.W.Write.contents in
    let noted = g.E.Write.contents in
    let those = c.in_ok-those.those in
    let names : c.names.result.now ≡ those.fixes.names.items = c.names.ensures in
    let known = subst (λ l. All (knows last) (map string_bytes l)) names c.in_ok-load_listed_files.ensures.known in
    mends_of (IsFoundBy found knows first) g.S.FileStore.refuses c.args.broken (found last) c.in_ok-verdict.verdict
    c.gather_rows.new.held.items those c.in_ok-those.ensures.fixes c.in_ok-those.ensures.left (
      last,
      continues_value (found first) (found mid) (found last) (knows first) (knows mid) (knows last)
          c.gather_rows.ensures.goes c.load_listed_files.ensures.goes,
      known,
      refl,
    )
    (left_of g.R.Read.remaining streams.rows)
    (noted streams.faults.inner) (noted c.gather_rows.new.faults.inner) (noted ended.faults.inner)
    (λ changes left. c.in_ok-all.all ≡ are_all_written changes left)
    (λ changes left. Writes (stored c.args.store.now) (stored c.write_selected.new.store)
    (flat_map written_by_change changes))
    (λ changes left. Appends (wrote streams.writer.inner) (wrote ended.writer.inner) (flat_map change_row changes))
    (from_none (IsFoundBy found knows first) c.in_ok-verdict.verdict (left_of g.R.Read.remaining streams.rows)
    (noted streams.faults.inner) (noted c.gather_rows.new.faults.inner) c.new-held.result.items
    c.gather_rows.new.held.items c.new-held.ensures.items c.in_ok-verdict.ensures.ok) c.in_ok-all.ensures.ok

pub returns-in_err-all-clause-first : goal.returns-in_err-all-clause-first
returns-in_err-all-clause-first g c =
    let first = c.args.files.now in
    let mid = c.gather_rows.new.files in
    let last = c.load_listed_files.new.files in
    let found = g.F.Files.found in
    let knows = g.F.FileLoader.knows in
    let streams = c.args.streams.now in
    let ended = c.write_selected.new.streams in
    let stored = g.S.FileStore.written in
    let wrote = g.W.Write.contents in
    let noted = g.E.Write.contents in
    let those = c.in_ok-those.those in
    let names : c.names.result.now ≡ those.fixes.names.items = c.names.ensures in
    let known = subst (λ l. All (knows last) (map string_bytes l)) names c.in_ok-load_listed_files.ensures.known in
    on_err_of _ _
    (inr (first_of (IsFoundBy found knows first) g.S.FileStore.refuses c.args.broken (found last)
    c.in_ok-verdict.verdict
    c.gather_rows.new.held.items those c.in_ok-those.ensures.fixes c.in_ok-those.ensures.left (
      last,
      continues_value (found first) (found mid) (found last) (knows first) (knows mid) (knows last)
          c.gather_rows.ensures.goes c.load_listed_files.ensures.goes,
      known,
      refl,
    )
    (left_of g.R.Read.remaining streams.rows)
    (noted streams.faults.inner) (noted c.gather_rows.new.faults.inner) (noted ended.faults.inner)
    (λ changes left. Writes (stored c.args.store.now) (stored c.write_selected.new.store)
    (flat_map written_by_change changes))
    (λ changes left. TakesBeginning (wrote streams.writer.inner) (wrote ended.writer.inner)
    (flat_map change_row changes))
    (from_none (IsFoundBy found knows first) c.in_ok-verdict.verdict (left_of g.R.Read.remaining streams.rows)
    (noted streams.faults.inner) (noted c.gather_rows.new.faults.inner) c.new-held.result.items
    c.gather_rows.new.held.items c.new-held.ensures.items c.in_ok-verdict.ensures.ok) c.in_err-all.ensures.first))

pub returns-in_err-verdict-clause-first : goal.returns-in_err-verdict-clause-first
returns-in_err-verdict-clause-first g c = on_err_of _ _ (inl (refl, refl, c.in_err-verdict.ensures.beginning))

pub returns-in_err-those-clause-first : goal.returns-in_err-those-clause-first
returns-in_err-those-clause-first g c = on_err_of _ _ (inl (
  refl,
  refl,
  all_given (IsFoundBy g.F.Files.found g.F.FileLoader.knows c.args.files.now)
      (λ (rows : List RowFixes). c.gather_rows.new.held.items ≡ c.new-held.result.items ++ rows)
      c.in_ok-verdict.verdict
      (left_of g.R.Read.remaining c.args.streams.now.rows) (g.E.Write.contents c.args.streams.now.faults.inner)
      (g.E.Write.contents c.gather_rows.new.faults.inner) c.in_ok-verdict.ensures.ok,
))

pub returns-in_err-load_listed_files-clause-first : goal.returns-in_err-load_listed_files-clause-first
returns-in_err-load_listed_files-clause-first g c = on_err_of _ _ (inl (
  refl,
  refl,
  all_given (IsFoundBy g.F.Files.found g.F.FileLoader.knows c.args.files.now)
      (λ (rows : List RowFixes). c.gather_rows.new.held.items ≡ c.new-held.result.items ++ rows)
      c.in_ok-verdict.verdict
      (left_of g.R.Read.remaining c.args.streams.now.rows) (g.E.Write.contents c.args.streams.now.faults.inner)
      (g.E.Write.contents c.gather_rows.new.faults.inner) c.in_ok-verdict.ensures.ok,
))
