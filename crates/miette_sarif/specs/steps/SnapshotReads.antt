-- Results of reading sources.
use Rattle.std.specs.Prelude.{◌≡◌, ℕ, Bool, List, Option, Some, None}
use Rattle.miette_json.specs.rules.JsonReport.{AreFurther}
use Rattle.miette_protocol.specs.rules.Reading.{Source}
use Rattle.miette_tree.specs.rules.Diagnosis.{Section}
use Rattle.miette_tree.specs.rules.Reads.{MayMeet}
use Rattle.miette_sarif.specs.rules.Findings.{SnapshotValue}
use Rattle.miette_sarif.specs.rules.Marks.{further_snapshots}
use Rattle.miette_sarif.specs.rules.SourceSnapshot.{seen, snapshot_or}

-- a source that was read, for some answer that it can give
pub record IsSnapshot (n : ℕ) (s : Source) (it : SnapshotValue) : Type 0 where
  pub fault : Bool
  pub possible : MayMeet (Some s) fault
  pub is : it ≡ seen fault n s

-- the report's own source, if it has one
pub record IsOwnSnapshot (n : ℕ) (s : Option Source) (it : Option SnapshotValue) : Type 0 where
  pub fault : Bool
  pub possible : MayMeet s fault
  pub is : it ≡ snapshot_or fault n s None

-- further sources
pub record AreFurtherSnapshots (n : ℕ) (sections : List Section) (its : List SnapshotValue) : Type 0 where
  pub faults : List Bool
  pub possible : AreFurther faults sections
  pub are : its ≡ further_snapshots faults n sections

abbrev pub seen_first : Option SnapshotValue → Option SnapshotValue → Option SnapshotValue
seen_first None otherwise = otherwise
seen_first (Some own) otherwise = Some own
