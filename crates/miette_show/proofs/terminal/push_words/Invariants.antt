use Rattle.std.proofs.Common.{◌≡◌, ◌++◌, map, string_bytes, take}
use Rattle.miette_show.proofs.terminal.push_words.Given as goal

-- the words that are passed were appended
abbrev pub invariant-loop-word : goal.invariant-loop-word
invariant-loop-word l =
    map string_bytes l.words.items ≡ map string_bytes l.initial.words.items ++ map string_bytes
    (take l.word-index l.more)
