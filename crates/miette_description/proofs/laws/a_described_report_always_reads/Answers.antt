use Rattle.miette_description.proofs.Sources.{described_reads}
use Rattle.miette_description.proofs.laws.a_described_report_always_reads.Goals as goal

pub returns : goal.returns
returns c = described_reads
