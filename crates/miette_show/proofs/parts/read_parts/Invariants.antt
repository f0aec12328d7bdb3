use Rattle.std.proofs.Common.{◌≡◌, false, map}
use Rattle.miette_show_rows.specs.views.Reading.{left_of}
use Rattle.miette_show_rows.proofs.PartSteps.{PartsLeft}
use Rattle.miette_show.proofs.parts.read_parts.Given as goal

-- no call failed, and these are the parts that were read
abbrev pub invariant-loop : goal.invariant-loop
invariant-loop g l = record {
  sound : l.rows.failed ≡ false;
  left : PartsLeft (left_of g.R.Read.remaining l.initial.rows) (left_of g.R.Read.remaining l.rows)
      (map (λ part. part.items) l.parts.items);
}
