use Rattle.std.proofs.Common.{ap, map, refl}
use Rattle.miette_sarif.specs.views.Findings.{finding_of}
use Rattle.miette_sarif.proofs.Gathers.{one_found}
use Rattle.miette_sarif.proofs.gather.sarif_findings_of_one.Goals as goal

pub returns : goal.returns
returns g c = one_found _ _ _ (ap (map finding_of) c.new.ensures.items) refl c.in_ok-gather.ensures
