-- The arguments of a program that reports on files.
use Rattle.std.specs.Prelude.{◌==◌, List, ℕ, Option, None, Some, codes, drop, if◌then◌else◌}
use Rattle.std.specs.List.{starts_with}

-- the rest of an argument that begins with `--`
unfoldable pub asked_name : List ℕ → Option (List ℕ)
asked_name word = if starts_with ◌==◌ word (codes "--") then Some (drop 2 word) else None
