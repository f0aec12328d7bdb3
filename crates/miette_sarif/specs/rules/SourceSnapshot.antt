-- Sources that were read, and how many each report has.
use Rattle.std.specs.Prelude.{ℕ, ◌+◌, List, [], length, Bool, Option, Some, None, unwrap_or, if◌then◌else◌}
use Rattle.miette_protocol.specs.rules.Reading.{Source}
use Rattle.miette_tree.specs.rules.Diagnosis.{Section}
use Rattle.miette_tree.specs.rules.Tree.{Tree, tree, Cause, diagnostic, texts, Trees, no_trees, more_trees}
use Rattle.miette_sarif.specs.rules.Findings.{SnapshotValue}

-- a source before which `n` were read; it has no name and no text if its read failed
abbrev pub seen : Bool → ℕ → Source → SnapshotValue
seen fault n s =
    if fault then record { source = record { name = []; number = n }; text = None }
    else record { source = record { name = unwrap_or s.name []; number = n }; text = Some s.bytes }

-- the report's own source, else the inherited one
abbrev pub snapshot_or : Bool → ℕ → Option Source → Option SnapshotValue → Option SnapshotValue
snapshot_or fault n None inherited = inherited
snapshot_or fault n (Some own) inherited = Some (seen fault n own)

abbrev pub count_own : Option Source → ℕ
count_own None = 0
count_own (Some own) = 1

-- the number of sources for a report's own labels
abbrev pub count_here : Option Source → List Section → ℕ
count_here own sections = count_own own + length sections

abbrev pub count_causes : Cause → ℕ
count_causes (texts ts) = 0
count_causes (diagnostic (tree m s c r)) = count_here s m.snippets + count_causes c

abbrev mutual
  pub count_in : Tree → ℕ
  count_in (tree m s c r) = count_here s m.snippets + count_causes c + count_all r

  pub count_all : Trees → ℕ
  count_all no_trees = 0
  count_all (more_trees t ts) = count_in t + count_all ts
