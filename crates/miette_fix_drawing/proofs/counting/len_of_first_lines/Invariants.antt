use Rattle.std.proofs.Common.{◌≡◌, ◌+◌, length, take}
use Rattle.miette_fix_rows.specs.rules.Blocks.{bytes_of, line_texts}
use Rattle.miette_fix_drawing.proofs.counting.len_of_first_lines.Given as goal

abbrev pub invariant-loop-left : goal.invariant-loop-left
invariant-loop-left l = record {
  told : l.size + bytes_of (take l.left (line_texts l.rest)) ≡ bytes_of (take l.many (line_texts l.bytes));
  whole : l.size + length l.rest ≡ length l.bytes;
}

abbrev pub decreases-loop-left : goal.decreases-loop-left
decreases-loop-left l = l.left
