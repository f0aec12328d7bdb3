-- The walk over the characters.
use Rattle.std.proofs.Common.{◌≡◌, ℕ, ◌<◌, length, take}
use Rattle.std.specs.Prelude.{encode_utf8_all}
use Rattle.std.specs.Str.{chars}
use Rattle.miette_protocol.specs.rules.Location.{line_after, column_after, Reaches}
use Rattle.miette_protocol.proofs.span.SourceOffset.from_location.Given as goal

-- line, column and offset after the characters so far, none of which reaches what is asked for
abbrev pub invariant-loop-c : goal.invariant-loop-c
invariant-loop-c l =
    (l.line_at ≡ line_after l.yielded) × (l.column_at ≡ column_after l.yielded)
    × (l.at ≡ length (encode_utf8_all l.yielded))
    × ((k : ℕ) → k < length l.yielded → ¬ Reaches (take k (chars l.source)) l.line l.column)
