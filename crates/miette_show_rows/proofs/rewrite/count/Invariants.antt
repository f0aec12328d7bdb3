use Rattle.std.proofs.Common.{◌≡◌, ◌≤◌, take}
use Rattle.std.specs.List.{count_by}
use Rattle.miette_show_rows.proofs.rewrite.count.Given as goal

-- how many hold of those that are passed
abbrev pub invariant-loop-it : goal.invariant-loop-it
invariant-loop-it l = record {
  counted : l.number ≡ count_by (λ b. b) (take l.it-index l.taken);
  few : l.number ≤ l.it-index;
}
