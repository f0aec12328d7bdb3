-- What a read asks of lines.
use Rattle.miette_lines.proofs.Places.{line_of_zero, line_of_start_before, line_start_le, line_of_cut}
use Rattle.miette_lines.proofs.Places.{line_end_after, line_end_le, line_of_mono, terminators_in-is}

pub ruleset reads = (
  line_of_zero,
  line_of_start_before,
  line_start_le,
  line_of_cut,
  line_end_after,
  line_end_le,
  line_of_mono,
  terminators_in-is,
)
