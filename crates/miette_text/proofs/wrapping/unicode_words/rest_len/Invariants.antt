use Rattle.std.proofs.Common.{◌≡◌, ◌+◌, ◌-◌, ◌≤◌, drop, length}
use Rattle.miette_text.specs.views.Breaks.{piece_len, state_at}
use Rattle.miette_text.proofs.wrapping.unicode_words.rest_len.Given as goal

abbrev pub invariant-rest : goal.invariant-rest
invariant-rest g l =
    let cs = g.C.Codes.codes l.codes in record {
      len : piece_len l.fn.start l.fn.joined cs ≡ l.i + piece_len l.state l.is_joined (drop l.i cs);
      state : l.state ≡ state_at l.fn.start l.i cs;
      within : l.i ≤ length cs;
    }

abbrev pub decreases-rest : goal.decreases-rest
decreases-rest g l = length (g.C.Codes.codes l.codes) - l.i
