-- The model of `Build`.
use Rattle.std.specs.Prelude.{ℕ, List, Option}
use Rattle.std.specs.Option.{option_copied}
use Rattle.miette_protocol.specs.rules.Reading.{Source}
use Rattle.miette_read.specs.declared.user_span.Build.{Build}
use Rattle.miette_read.specs.rules.Rustc as rustc

abbrev pub built : {F : Type 0} → (F → List ℕ → Option Source) → Build F → rustc.Build
built found it = record { files = found it.files.now; folder = option_copied it.folder }
