use Rattle.miette_read_laws.proofs.SameFixes.{fixes_same}
use Rattle.miette_read_laws.proofs.log_laws.fixes_do_the_same.Goals as goal

pub returns : goal.returns
returns c = fixes_same
