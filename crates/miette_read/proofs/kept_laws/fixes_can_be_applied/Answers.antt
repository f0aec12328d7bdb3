use Rattle.miette_read.proofs.Applying.{all_apply}
use Rattle.miette_read.proofs.kept_laws.fixes_can_be_applied.Goals as goal

pub returns : goal.returns
returns c = all_apply
