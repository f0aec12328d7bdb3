use Rattle.std.proofs.Common.{◌≡◌, map, string_bytes, length}
use Rattle.std.specs.Option.{option_copied}
use Rattle.miette_show.specs.rules.ShowWords.{asked_from, nothing_asked}
use Rattle.miette_show.proofs.WordSteps.{asked_so_far}
use Rattle.miette_show.proofs.words.FrontWords.front.Given as goal

-- the words that are left ask for what all do
abbrev pub invariant-loop-word : goal.invariant-loop-word
invariant-loop-word l =
    asked_from (asked_so_far (option_copied l.root) l.from l.fix l.broken) (map string_bytes l.rest)
    ≡ asked_from nothing_asked (map string_bytes l.words)

abbrev pub decreases-loop-word : goal.decreases-loop-word
decreases-loop-word l = length l.rest
