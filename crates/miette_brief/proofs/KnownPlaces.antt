-- Lines that are known as labels are read one after the other.
use Rattle.std.proofs.Common.{Option, Some, None}
use Rattle.miette_protocol.specs.rules.Reading.{Source}
use Rattle.miette_labels.proofs.KnownLabels.{start_known}
use Rattle.miette_brief.specs.steps.Reads.{AreKnown}

-- those of the start
pub start_of : (source : Option Source) → AreKnown source (record {
  first = record { offset = 0; line = 0 };
  last = record { offset = 0; line = 0 };
})
start_of None = tt
start_of (Some source) = (start_known source.bytes, start_known source.bytes)
