use Rattle.std.proofs.Common.{◌≡◌, ◌++◌, ◌∷◌, drop, map}
use Rattle.miette_fixes.specs.views.Ordered.{edits_of}
use Rattle.miette_sarif.specs.steps.Drafts.{drafts, drafts_from}
use Rattle.miette_sarif.specs.views.DraftValue.{draft_of}
use Rattle.miette_sarif.proofs.edits.push_drafts.Given as goal

abbrev pub invariant-loop-edit : goal.invariant-loop-edit
invariant-loop-edit l =
    map draft_of l.done.items ++ drafts_from l.text (draft_of l.before) (edits_of (drop l.edit-index l.rest))
    ≡ map draft_of l.fn.done.items ++ drafts l.text (l.first ∷ edits_of l.rest)
