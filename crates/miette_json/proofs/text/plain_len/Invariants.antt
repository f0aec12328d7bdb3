use Rattle.std.proofs.Common.{◌-◌, length}
use Rattle.miette_json.specs.steps.EscapedBytes.{is_unescaped}
use Rattle.miette_lines.proofs.Blocks.{HasPassed}
use Rattle.miette_json.proofs.text.plain_len.Given as goal

abbrev pub invariant-loop-len : goal.invariant-loop-len
invariant-loop-len l = HasPassed is_unescaped l.bytes l.len

abbrev pub decreases-loop-len : goal.decreases-loop-len
decreases-loop-len l = length l.bytes - l.len

abbrev pub invariant-loop-len-2 : goal.invariant-loop-len-2
invariant-loop-len-2 l = HasPassed is_unescaped l.bytes l.len

abbrev pub decreases-loop-len-2 : goal.decreases-loop-len-2
decreases-loop-len-2 l = length l.bytes - l.len
