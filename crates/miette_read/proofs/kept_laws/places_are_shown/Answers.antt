use Rattle.miette_read.proofs.Shown.{missed_caused, place_shown, placeless_caused}
use Rattle.miette_read.proofs.kept_laws.places_are_shown.Goals as goal

pub returns-clause-found : goal.returns-clause-found
returns-clause-found c = place_shown

pub returns-clause-missed : goal.returns-clause-missed
returns-clause-missed c = missed_caused

pub returns-clause-placeless : goal.returns-clause-placeless
returns-clause-placeless c = placeless_caused
