use Rattle.std.proofs.Common.{◌≡◌, ◌++◌, Some, map}
use Rattle.std.specs.Vec.Iter.{into_iter_items}
use Rattle.miette_sarif.specs.steps.Drafts.{made_of}
use Rattle.miette_sarif.specs.views.DraftValue.{draft_of}
use Rattle.miette_sarif.specs.views.Findings.{replacement_value_of}
use Rattle.miette_sarif.proofs.edits.replacements.Given as goal

abbrev pub invariant-loop-draft : goal.invariant-loop-draft
invariant-loop-draft l = record {
  left : l.yielded ++ into_iter_items l.draft-iterator ≡ into_iter_items l.initial.draft-iterator;
  made : made_of l.bytes (map draft_of l.yielded) ≡ Some (map replacement_value_of l.list.items);
}
