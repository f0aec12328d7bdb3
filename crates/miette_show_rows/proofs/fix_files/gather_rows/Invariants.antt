use Rattle.std.proofs.Common.{◌≡◌, ◌++◌, List, false}
use Rattle.miette_show_rows.specs.rules.ApplicableFixes.{RowFixes}
use Rattle.miette_show_rows.specs.rules.Looking.{Goes, IsFoundBy}
use Rattle.miette_show_rows.specs.views.Reading.{left_of}
use Rattle.miette_show_rows.proofs.MendSteps.{Passing}
use Rattle.miette_show_rows.proofs.fix_files.gather_rows.Given as goal

-- no call failed, what is known stays, and the parts before this number gave fixes
abbrev pub invariant-loop : goal.invariant-loop
invariant-loop g l = record {
  rows_sound : l.rows.failed ≡ false;
  faults_sound : l.faults.failed ≡ false;
  goes : Goes (g.F.Files.found l.initial.files) (g.F.FileLoader.knows l.initial.files) (g.F.Files.found l.files)
      (g.F.FileLoader.knows l.files);
  passing : Passing (λ (rows : List RowFixes). l.held.items ≡ l.initial.held.items ++ rows)
      (IsFoundBy g.F.Files.found g.F.FileLoader.knows l.initial.files) (left_of g.R.Read.remaining l.initial.rows)
      (left_of g.R.Read.remaining l.rows) (g.E.Write.contents l.initial.faults.inner)
      (g.E.Write.contents l.faults.inner) l.number l.verdict;
}
