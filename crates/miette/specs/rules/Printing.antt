-- What printing a report writes.
use Rattle.std.specs.Prelude.{ℕ, List, Option, ◌++◌, codes}
use Rattle.std.specs.Io.KnownBytes.{Appends}
use Rattle.miette_protocol.specs.declared.error.RenderError.{RenderError}
use Rattle.miette_protocol.specs.declared.error.RenderError.TheVariants as rendering
use Rattle.miette_style.specs.declared.theme.Terminal.{Terminal}
use Rattle.miette_tree.specs.rules.Tree.{Tree}
use Rattle.miette.specs.rules.Choice.{IsChosen}
use Rattle.miette.specs.rules.Detection.{IsDetected}
use Rattle.miette.specs.views.Handler.{HandlerRefuses}
use Rattle.miette.specs.rules.Options.{Options}
use Rattle.miette.specs.declared.options.handler.MietteHandler.{MietteHandler}
use Rattle.miette.specs.declared.print.PrintError.{PrintError}
use Rattle.miette.specs.declared.print.PrintError.TheVariants as printing
use Rattle.miette.specs.declared.terminal.Stream.{Stream}
use Rattle.miette.specs.declared.terminal.Variables.{Variables}

-- A writer that records its bytes has one of these texts appended.
abbrev pub WritesOne : (List ℕ → Type 0) → Option (List ℕ) → Option (List ℕ) → Type 0
WritesOne given old new = (text : List ℕ) × given text × Appends old new text

-- the handler that options choose for a stream's terminal, for some answers of the system
abbrev pub IsChosenFor : {H : Type 0} → (Variables → Type 0) → Options H → Stream → MietteHandler H → Type 0
IsChosenFor is_told o stream handler =
    (v : Variables) × (terminal : Terminal) × is_told v × IsDetected v stream terminal × IsChosen o terminal handler

-- the text is one that such a handler gives
abbrev pub IsPrinted : {H : Type 0} → (Variables → Type 0) → (MietteHandler H → Tree → List ℕ → Type 0) → Options H
    → Stream → Tree → List ℕ → Type 0
IsPrinted {H} is_told gives o stream t text =
    (handler : MietteHandler H) × IsChosenFor is_told o stream handler × gives handler t text

-- such a handler may refuse the report
abbrev pub MayRefuse : {H : Type 0} → (Variables → Type 0) → Options H → Stream → Tree → Type 0
MayRefuse {H} is_told o stream t =
    (handler : MietteHandler H) × IsChosenFor is_told o stream handler × HandlerRefuses handler t

-- the text of a print error
abbrev pub print_text : PrintError → List ℕ
print_text printing.Memory = codes "out of memory"
print_text printing.Refused = codes "a source could not be read"
print_text printing.Write = codes "write fault"

-- the line with that text
abbrev pub unprinted_row : PrintError → List ℕ
unprinted_row why = codes "a report could not be printed: " ++ (print_text why ++ codes "\n")

-- the print error of a render error
abbrev pub print_error : RenderError → PrintError
print_error rendering.Memory = printing.Memory
print_error rendering.Refused = printing.Refused
