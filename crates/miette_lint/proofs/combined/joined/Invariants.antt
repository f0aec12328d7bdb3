use Rattle.std.proofs.Common.{◌≡◌, ◌++◌, take}
use Rattle.std.specs.List.{flat_map}
use Rattle.miette_fixes.specs.rules.Edits.{FixModel}
use Rattle.miette_lint.proofs.combined.joined.Given as goal

abbrev pub invariant-loop-other : goal.invariant-loop-other
invariant-loop-other l = l.joint ≡ record l.fn.fix {
  edits = l.fn.fix.edits ++ flat_map (λ (other : FixModel). other.edits) (take l.other-index l.fixes);
}
