-- The arguments that select an output form.
use Rattle.std.specs.Prelude.{ℕ, List, Option, Some, None, bytes_eq, codes, if◌then◌else◌, ◌||◌}
use Rattle.miette_devices.specs.declared.output_form.OutputForm.{OutputForm}
use Rattle.miette_devices.specs.declared.output_form.OutputForm.TheVariants.{Graphical, Narrated, Brief, Github, Json, Debug}
use Rattle.miette_devices.specs.declared.output_form.OutputForm.TheVariants.{Sarif, Lsp}

-- the form that an argument selects
abbrev pub form_named : List ℕ → Option OutputForm
form_named word =
    if bytes_eq word (codes "--graphical") then Some Graphical
    else if bytes_eq word (codes "--narrated") then Some Narrated
    else if bytes_eq word (codes "--brief") then Some Brief
    else if bytes_eq word (codes "--github") || bytes_eq word (codes "--brief=github") then Some Github
    else if bytes_eq word (codes "--json") then Some Json
    else if bytes_eq word (codes "--debug") then Some Debug
    else if bytes_eq word (codes "--sarif") then Some Sarif
    else if bytes_eq word (codes "--lsp") then Some Lsp else None
