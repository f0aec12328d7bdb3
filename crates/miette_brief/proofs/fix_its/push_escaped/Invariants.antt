use Rattle.std.proofs.Common.{◌≡◌, ◌++◌, string_bytes, drop}
use Rattle.miette_brief.specs.rules.FixIts.{escaped}
use Rattle.miette_brief.proofs.fix_its.push_escaped.Given as goal

abbrev pub invariant-loop-byte : goal.invariant-loop-byte
invariant-loop-byte l = string_bytes l.out ++ escaped (drop l.byte-index l.byte-items)
    ≡ string_bytes l.fn.out ++ escaped l.text
