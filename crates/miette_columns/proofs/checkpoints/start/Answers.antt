use Rattle.std.proofs.Common.{refl}
use Rattle.miette_columns.proofs.PlaceLaws.{first_place}
use Rattle.miette_columns.proofs.checkpoints.start.Goals as goal

pub returns-clause-place : goal.returns-clause-place
returns-clause-place c = first_place c.args.text.now _ refl refl refl refl refl
