use Rattle.std.proofs.Common.{◌≡◌, Option, Some, None, refl, unwrap_or}
use Rattle.miette_protocol.specs.declared.protocol.Severity.{Severity}
use Rattle.miette_protocol.specs.declared.protocol.Severity.TheVariants.{Advice, Error, Warning}
use Rattle.miette_sarif.specs.rules.FindingList.{level}
use Rattle.miette_read_sarif.specs.rules.Results.{sarif_severity}
use Rattle.miette_read_laws.proofs.log_laws.severities_read_back.Goals as goal

severity_back : (severity : Option Severity) → sarif_severity (level severity) ≡ unwrap_or severity Error
severity_back None = refl
severity_back (Some Error) = refl
severity_back (Some Warning) = refl
severity_back (Some Advice) = refl

pub returns : goal.returns
returns c = severity_back
