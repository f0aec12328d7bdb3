use Rattle.std.proofs.Common.{◌∙◌, ap, sym}
use Rattle.miette_runs.specs.views.Outputs.{target_text}
use Rattle.miette_style.proofs.PrintedText.{text-bytes}
use Rattle.miette_runs.proofs.runs.output.Output.into_text.Goals as goal

pub returns-in-Printed : goal.returns-in-Printed
returns-in-Printed c = text-bytes c.in-Printed.text c.args.self (sym (ap target_text c.in-Printed.is) ∙ c.self.view_is)
