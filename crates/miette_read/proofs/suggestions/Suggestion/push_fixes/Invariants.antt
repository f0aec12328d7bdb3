use Rattle.std.proofs.Common.{◌≡◌, take}
use Rattle.std.specs.List.{fold}
use Rattle.miette_read.specs.rules.SuggestedFixes.{with_item, without_edits}
use Rattle.miette_read.proofs.suggestions.Suggestion.push_fixes.Given as goal

-- the edits that are passed are parted
abbrev pub invariant-loop-item : goal.invariant-loop-item
invariant-loop-item l =
    fold (with_item l.name)
    (record { done = l.initial.list.items; fix = without_edits l.message l.self.applicability })
    (take l.item-index l.self.edits)
    ≡ record { done = l.list.items; fix = l.fix }
