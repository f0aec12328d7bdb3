use Rattle.std.proofs.Common.{◌≡◌, ◌+◌, ◌≤◌, take}
use Rattle.std.specs.List.{count_by}
use Rattle.miette_show_rows.specs.rules.CurrentSpans.{is_first}
use Rattle.miette_show_rows.proofs.current_spans.column_after.Given as goal

-- the column after the bytes that are passed
abbrev pub invariant-loop-byte : goal.invariant-loop-byte
invariant-loop-byte l = record {
  counted : l.column ≡ count_by is_first (take l.byte-index l.bytes) + 1;
  few : l.column ≤ l.byte-index + 1;
}
