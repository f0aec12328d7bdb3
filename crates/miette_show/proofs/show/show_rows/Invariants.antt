use Rattle.std.proofs.Common.{◌≡◌, false}
use Rattle.miette_program.specs.rules.JobText.{IsGiven, IsLed, JobHandlerStays}
use Rattle.miette_show_rows.specs.rules.Looking.{Goes, IsFoundBy}
use Rattle.miette_show_rows.specs.views.Reading.{left_of}
use Rattle.miette_show.proofs.Progress.{Progress}
use Rattle.miette_show.proofs.show.show_rows.Given as goal

-- no call failed, what is known stays, and the rows before this number were shown
abbrev pub invariant-loop : goal.invariant-loop
invariant-loop g l = record {
  rows_sound : l.streams.rows.failed ≡ false;
  writer_sound : l.streams.writer.failed ≡ false;
  faults_sound : l.streams.faults.failed ≡ false;
  goes : Goes (g.F.Files.found l.initial.files) (g.F.FileLoader.knows l.initial.files) (g.F.Files.found l.files)
      (g.F.FileLoader.knows l.files);
  stays : JobHandlerStays g.H.Highlighter.is_blank l.initial.handler l.handler;
  led : IsLed g.H.Highlighter.may_follow l.initial.handler l.handler;
  progress : Progress l.initial.from (IsGiven g.H.Highlighter.is_blank g.H.Highlighter.may_follow l.initial.handler)
      (IsFoundBy g.F.Files.found g.F.FileLoader.knows l.initial.files)
      (left_of g.R.Read.remaining l.initial.streams.rows)
      (left_of g.R.Read.remaining l.streams.rows) (g.W.Write.contents l.initial.streams.writer.inner)
      (g.W.Write.contents l.streams.writer.inner) (g.E.Write.contents l.initial.streams.faults.inner)
      (g.E.Write.contents l.streams.faults.inner) l.number l.seen l.verdict;
}
