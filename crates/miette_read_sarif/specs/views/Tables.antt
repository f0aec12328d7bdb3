-- Tables of line starts.
use Rattle.std.specs.Prelude.{◌≡◌, ◌≤◌, ℕ, List, Option, length, slice_get, string_bytes}
use Rattle.std.specs.List.{All}
use Rattle.std.specs.Option.{ForSome}
use Rattle.miette_protocol.specs.rules.Reading.{Source}
use Rattle.miette_read_sarif.specs.rules.Newlines.{nth_line_start}
use Rattle.miette_read_sarif.specs.declared.line_tables.LineTable.{LineTable}

-- The offset of each line's start, by zero-based line number from the line at `at`.
pub record AreStarts (newlines : List (List ℕ)) (bytes : List ℕ) (at : ℕ) (starts : List ℕ) : Type 0 where
  pub same : (k : ℕ) → slice_get starts k ≡ nth_line_start newlines bytes at k
  pub within : (k : ℕ) → ForSome (slice_get starts k) (λ start. start ≤ length bytes)

-- The table is that of the file with its name.
abbrev pub IsTable : (List ℕ → Option Source) → List (List ℕ) → LineTable → Type 0
IsTable files newlines t = ForSome (files (string_bytes t.name)) (λ s. AreStarts newlines s.bytes 0 t.starts.items)

abbrev pub AreTables : (List ℕ → Option Source) → List (List ℕ) → List LineTable → Type 0
AreTables files newlines tables = All (IsTable files newlines) tables
