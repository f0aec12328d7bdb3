use Rattle.std.proofs.Common.{◌≡◌, ◌++◌, string_bytes, map, drop}
use Rattle.miette_brief.specs.rules.Commands.{message_rows_text}
use Rattle.miette_brief.proofs.Commanding.{cause}
use Rattle.miette_brief.proofs.github.push_cause_texts.Given as goal

abbrev pub invariant-loop-text : goal.invariant-loop-text
invariant-loop-text l =
    string_bytes l.out ++ message_rows_text (map cause (map string_bytes (drop l.text-index l.texts)))
    ≡ string_bytes l.fn.out ++ message_rows_text (map cause (map string_bytes l.texts))
