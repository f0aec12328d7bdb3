use Rattle.std.proofs.Common.{◌≡◌, ◌+◌, ◌-◌, ◌≤◌, length, drop}
use Rattle.std.specs.List.{prefix_len}
use Rattle.miette_columns.specs.views.Printable.{is_printable}
use Rattle.miette_columns.proofs.plain.plain_len.Given as goal

abbrev pub invariant-loop-len : goal.invariant-loop-len
invariant-loop-len l = record {
  within : l.len ≤ length l.bytes;
  told : l.len + prefix_len is_printable (drop l.len l.bytes) ≡ prefix_len is_printable l.bytes;
}

abbrev pub decreases-loop-len : goal.decreases-loop-len
decreases-loop-len l = length l.bytes - l.len

abbrev pub invariant-loop-len-2 : goal.invariant-loop-len-2
invariant-loop-len-2 l = record {
  within : l.len ≤ length l.bytes;
  told : l.len + prefix_len is_printable (drop l.len l.bytes) ≡ prefix_len is_printable l.bytes;
}

abbrev pub decreases-loop-len-2 : goal.decreases-loop-len-2
decreases-loop-len-2 l = length l.bytes - l.len
