-- The request, as the code keeps it.
use Rattle.miette_program.specs.steps.ParsedArguments.{parsed_of}
use Rattle.miette_report.specs.declared.request.Request as code
use Rattle.miette_report.specs.declared.request.Request.TheVariants.{Report, Log, Fix}
use Rattle.miette_report.specs.rules.Requests.{Request, report, log, fix}

abbrev pub request_in : code.Request → Request
request_in (Report settings) = report (parsed_of settings)
request_in (Log asked) = log asked
request_in (Fix all) = fix all
