-- Which reports are in a log of `show`.
use Rattle.std.specs.Prelude.{Bool, true, false}
use Rattle.miette_lsp.specs.declared.logs.LogForm.{LogForm}
use Rattle.miette_lsp.specs.declared.logs.LogForm.TheVariants.{Sarif, Lsp}

-- Code review services reject a SARIF log if one result has no location.
abbrev pub needs_places : LogForm → Bool
needs_places Sarif = true
needs_places Lsp = false
