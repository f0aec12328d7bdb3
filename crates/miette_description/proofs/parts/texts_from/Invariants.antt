use Rattle.std.proofs.Common.{map, string_bytes}
use Rattle.serde_json.specs.Find.{as_str}
use Rattle.miette_description.proofs.Lists.{ReadSoFar}
use Rattle.miette_description.proofs.parts.texts_from.Given as goal

abbrev pub invariant-loop-item : goal.invariant-loop-item
invariant-loop-item l = ReadSoFar as_str l.list (map string_bytes l.texts.items) l.item-index
