-- The findings of a log: all that results and rules need from a report.
use Rattle.std.specs.Prelude.{ℕ, List, Option}
use Rattle.miette_fixes.specs.declared.applicability.Applicability.{Applicability}
use Rattle.miette_positions.specs.declared.position.Stretch.{Stretch}

-- identifies a source: its name (empty if it has none), and the number of sources read before it
pub record SourceName : Type 0 where
  pub name : List ℕ
  pub number : ℕ

-- a source that was read; it has no text if the read failed
pub record SnapshotValue : Type 0 where
  pub source : SourceName
  pub text : Option (List ℕ)

-- a region of a source, and its text if the log shows it
pub record SarifRegion : Type 0 where
  pub stretch : Stretch
  pub snippet : Option (List ℕ)

-- a location in a source; it has no region if the label is refused
pub record PhysicalLocation : Type 0 where
  pub source : SourceName
  pub area : Option SarifRegion

-- a location with a message, which is empty if there is none
pub record SarifLocation : Type 0 where
  pub place : Option PhysicalLocation
  pub text : List ℕ

-- text that replaces a region of a source
pub record ReplacementValue : Type 0 where
  pub deleted : Stretch
  pub text : List ℕ

-- a fix that can be applied
pub record ApplicableFix : Type 0 where
  pub message : List ℕ
  pub applicability : Applicability
  pub source : SourceName
  pub replacements : List ReplacementValue

-- what the log has for one report; `unapplied` has the messages of fixes that can't be applied
pub record Finding : Type 0 where
  pub code : List ℕ
  pub level : List ℕ
  pub message : List ℕ
  pub causes : List (List ℕ)
  pub help : Option (List ℕ)
  pub url : Option (List ℕ)
  pub primary : Option SarifLocation
  pub locations : List SarifLocation
  pub fixes : List ApplicableFix
  pub unapplied : List (List ℕ)
