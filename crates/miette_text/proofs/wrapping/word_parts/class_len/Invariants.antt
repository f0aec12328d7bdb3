use Rattle.std.proofs.Common.{◌≡◌, ◌+◌, ◌-◌, ◌≤◌, drop, length}
use Rattle.miette_text.proofs.wrapping.word_parts.class_len.Given as goal

abbrev pub invariant-rest : goal.invariant-rest
invariant-rest g l =
    let cs = g.C.Codes.codes l.codes in record {
      told : g.K.Class.count cs ≡ l.i + g.K.Class.count (drop l.i cs);
      within : l.i ≤ length cs;
    }

abbrev pub decreases-rest : goal.decreases-rest
decreases-rest g l = length (g.C.Codes.codes l.codes) - l.i
