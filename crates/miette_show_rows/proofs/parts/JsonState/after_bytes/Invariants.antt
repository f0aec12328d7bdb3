use Rattle.std.proofs.Common.{◌≡◌, take}
use Rattle.std.specs.List.{fold}
use Rattle.miette_show_rows.specs.rules.Parts.{with_byte}
use Rattle.miette_show_rows.proofs.parts.JsonState.after_bytes.Given as goal

-- what is open after the bytes that are passed
abbrev pub invariant-loop-byte : goal.invariant-loop-byte
invariant-loop-byte l = l.state ≡ fold with_byte l.fn.self (take l.byte-index l.bytes)
