use Rattle.miette_brief.proofs.CommandsBack.{commands_counted, commands_read}
use Rattle.miette_brief.proofs.laws.each_diagnostic_has_one_github_command.Goals as goal

pub returns-clause-read : goal.returns-clause-read
returns-clause-read c = λ s t a is. commands_read s t a is

pub returns-clause-many : goal.returns-clause-many
returns-clause-many c = λ chain inherited t a. commands_counted chain inherited a t
