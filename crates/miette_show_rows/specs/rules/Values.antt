-- The JSON value of a part.
use Rattle.std.specs.Prelude.{ℕ, List, Option}
use Rattle.serde_json.specs.Data.{Data}
use Rattle.serde_json.specs.Read as json
use Rattle.miette_show_rows.specs.rules.Rows.{without_byte_order_mark}

-- A byte order mark is skipped.
abbrev pub read : List ℕ → Option Data
read part = json.read (without_byte_order_mark part)
