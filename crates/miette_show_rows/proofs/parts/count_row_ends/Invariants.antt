use Rattle.std.proofs.Common.{◌≡◌, ◌≤◌, take}
use Rattle.std.specs.Prelude.{◌==◌}
use Rattle.std.specs.List.{count_by}
use Rattle.miette_show_rows.proofs.parts.count_row_ends.Given as goal

-- how many rows end in what is passed
abbrev pub invariant-loop-byte : goal.invariant-loop-byte
invariant-loop-byte l = record {
  counted : l.ends ≡ count_by (λ b. b == 10) (take l.byte-index l.bytes);
  few : l.ends ≤ l.byte-index;
}
