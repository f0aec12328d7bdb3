use Rattle.miette_read.proofs.Proposed.{edit_proposed}
use Rattle.miette_read.proofs.kept_laws.edits_are_proposed.Goals as goal

pub returns : goal.returns
returns c = edit_proposed
