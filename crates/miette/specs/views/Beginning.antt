-- The beginning of a session: its handler is one that form and options choose for a stream's terminal.
use Rattle.std.specs.Prelude.{◌≡◌}
use Rattle.miette_style.specs.declared.theme.Terminal.{Terminal}
use Rattle.miette.specs.rules.Detection.{IsDetected}
use Rattle.miette.specs.rules.Options.{Options}
use Rattle.miette.specs.rules.ReporterRun.{ReporterRun, new_run}
use Rattle.miette.specs.views.FormHandler.{IsChosenInForm}
use Rattle.miette.specs.declared.reporter.form.Form.{Form}
use Rattle.miette.specs.declared.reporter.handler.FormHandler.{FormHandler}
use Rattle.miette.specs.declared.terminal.Stream.{Stream}
use Rattle.miette.specs.declared.terminal.Variables.{Variables}

abbrev pub IsBegun : {H W F : Type 0} → (Variables → Type 0) → Stream → Form → Options H
    → ReporterRun (FormHandler H) W F
    → Type 0
IsBegun is_told stream form o it =
    (v : Variables) × (terminal : Terminal) × is_told v × IsDetected v stream terminal
    × IsChosenInForm form o terminal it.handler × (it ≡ new_run it.handler it.outputs form)
