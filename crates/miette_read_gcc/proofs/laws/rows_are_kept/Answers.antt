use Rattle.miette_read_gcc.proofs.Reports.{gcc_keeps}
use Rattle.miette_read_gcc.proofs.laws.rows_are_kept.Goals as goal

pub returns : goal.returns
returns c = gcc_keeps
