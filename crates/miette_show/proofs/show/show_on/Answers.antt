use Rattle.std.proofs.Common.{◌≡◌}
use Rattle.std.specs.Io.KnownBytes.{Appends}
use Rattle.miette_devices.specs.views.Device.{TakesBeginning}
use Rattle.miette_show_rows.specs.rules.Looking.{IsFoundBy}
use Rattle.miette_show_rows.specs.views.Reading.{left_of}
use Rattle.miette_show.proofs.Calls.{call_first, call_shows}
use Rattle.miette_show.proofs.show.show_on.Goals as goal

pub returns-clause-ok : goal.returns-clause-ok
returns-clause-ok g c =
    let it = c.args.settings in
    let old = c.args.streams.now in
    let new = c.show_rows.new.streams in
    let wrote = g.W.Write.contents in
    let noted = g.E.Write.contents in
    call_shows _ c.args.from it.choice it.options it.terminal c.in_ok-handler.handler c.in_ok-handler.ensures
    (IsFoundBy g.F.Files.found g.F.FileLoader.knows c.args.files.now) (left_of g.R.Read.remaining old.rows)
    (λ text notes. Appends (wrote old.writer.inner) (wrote new.writer.inner) text
    × Appends (noted old.faults.inner) (noted new.faults.inner) notes) c.show_rows.result c.show_rows.ensures.ok

pub returns-clause-beginning : goal.returns-clause-beginning
returns-clause-beginning g c =
    let it = c.args.settings in
    let old = c.args.streams.now in
    let new = c.show_rows.new.streams in
    let wrote = g.W.Write.contents in
    let noted = g.E.Write.contents in
    call_first _ c.args.from it.choice it.options it.terminal c.in_ok-handler.handler c.in_ok-handler.ensures
    (IsFoundBy g.F.Files.found g.F.FileLoader.knows c.args.files.now) (left_of g.R.Read.remaining old.rows)
    (λ text notes. TakesBeginning (wrote old.writer.inner) (wrote new.writer.inner) text
    × TakesBeginning (noted old.faults.inner) (noted new.faults.inner) notes) c.show_rows.result (new ≡ old)
    c.show_rows.ensures.beginning
