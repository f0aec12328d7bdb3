-- The texts of a cause.
use Rattle.std.specs.Prelude.{ℕ, List, drop, map, string_bytes}
use Rattle.miette_tree.specs.declared.cause_texts.CauseTexts.{CauseTexts}

-- the texts after the empty ones
abbrev pub texts_in : CauseTexts → List (List ℕ)
texts_in it = map string_bytes (drop it.start it.list.items)
