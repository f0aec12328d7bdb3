use Rattle.std.proofs.Common.{◌≡◌, ◌-◌, ◌<◌, ◌≤◌, true, length, take}
use Rattle.miette_line_breaks.specs.views.AsciiState.{state_in}
use Rattle.miette_text.specs.views.Breaks.{all_printed}
use Rattle.miette_text.proofs.BreakParts.{Walked}
use Rattle.miette_text.proofs.wrapping.unicode_words.word_len.Given as goal

abbrev pub invariant-rest : goal.invariant-rest
invariant-rest g l =
    let cs = g.C.Codes.codes l.codes in record {
      walked : Walked l.fn.start (state_in l.place) l.i cs;
      printed : l.is_printed ≡ true → all_printed (take l.i cs) ≡ true;
      some : 0 < l.i;
      within : l.i ≤ length cs;
    }

abbrev pub decreases-rest : goal.decreases-rest
decreases-rest g l = length (g.C.Codes.codes l.codes) - l.i
