use Rattle.std.proofs.Common.{◌≡◌, false}
use Rattle.miette_show_rows.specs.rules.Parts.{after_bytes, closed}
use Rattle.miette_show_rows.specs.views.Reading.{left_of}
use Rattle.miette_show_rows.proofs.PartSteps.{PartHeld}
use Rattle.miette_show_rows.proofs.row_reader.RowReader.gather.Given as goal

-- the rows that were read are the beginning of a part
abbrev pub invariant-loop : goal.invariant-loop
invariant-loop g l = record {
  sound : l.self.failed ≡ false;
  held : PartHeld (left_of g.R.Read.remaining l.initial.self) (left_of g.R.Read.remaining l.self) l.part.items;
  reached : l.state ≡ after_bytes closed l.part.items;
}
