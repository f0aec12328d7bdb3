use Rattle.std.proofs.Common.{◌≡◌, false}
use Rattle.std.specs.Io.KnownBytes.{Consumes}
use Rattle.miette_show_rows.specs.rules.Rows.{has_end}
use Rattle.miette_show_rows.specs.views.Reading.{left_of}
use Rattle.miette_show_rows.proofs.row_reader.RowReader.next.Given as goal

-- what was read so far has no end of a row
abbrev pub invariant-loop : goal.invariant-loop
invariant-loop g l = record {
  sound : l.self.failed ≡ false;
  left : Consumes (left_of g.R.Read.remaining l.initial.self) (left_of g.R.Read.remaining l.self) l.row.items;
  none : has_end l.row.items ≡ false;
}
