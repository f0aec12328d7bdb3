-- The sources that the code has read, as the rules represent them.
use Rattle.std.specs.Prelude.{Option}
use Rattle.std.specs.Option.{option_map}
use Rattle.miette_sarif.specs.declared.snapshots.SourceSnapshot.{SourceSnapshot}
use Rattle.miette_sarif.specs.rules.Findings.{SnapshotValue}
use Rattle.miette_sarif.specs.views.Findings.{source_name_of}
use denote.Ref.{Bor}

abbrev pub snapshot_of : SourceSnapshot → SnapshotValue
snapshot_of it = record { source = source_name_of it.source; text = it.text }

-- a borrowed source, if there is one
abbrev pub over_of : Option (Bor SourceSnapshot) → Option SnapshotValue
over_of over = option_map (λ it. snapshot_of it.now) over
