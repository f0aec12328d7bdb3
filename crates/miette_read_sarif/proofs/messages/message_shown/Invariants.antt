use Rattle.std.proofs.Common.{◌≡◌, ◌++◌, string_bytes, length}
use denote.Shadow.{shadow}
use denote.Text.{Utf8}
use Rattle.miette_read.specs.views.Values.{viewed}
use Rattle.miette_read_sarif.specs.rules.Messages.{message_shown, shown_after}
use Rattle.miette_read_sarif.proofs.messages.message_shown.Given as goal

abbrev pub decreases-loop-at : goal.decreases-loop-at
decreases-loop-at l = length l.rest

-- what was written, and what is shown of the rest after it
abbrev pub invariant-loop-at : goal.invariant-loop-at
invariant-loop-at l =
    (string_bytes l.out ++ shown_after (viewed l.arguments) l.in_link 0 l.rest
    ≡ message_shown (viewed l.arguments) l.text)
    × shadow (Utf8 l.rest)
