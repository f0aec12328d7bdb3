use Rattle.std.proofs.Common.{◌≡◌, ◌++◌, map, drop, string_bytes}
use Rattle.miette_tree.proofs.cause_texts.push_copies.Given as goal

-- the texts so far and those that are left are those that were there and those that are passed
abbrev pub invariant-loop-text : goal.invariant-loop-text
invariant-loop-text l =
    map string_bytes l.list.items ++ map string_bytes (drop l.text-index l.texts) ≡ map string_bytes l.fn.list.items
    ++ map string_bytes l.texts
