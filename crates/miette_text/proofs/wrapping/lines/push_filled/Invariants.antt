use Rattle.std.proofs.Common.{◌≡◌, ◌≤◌, ◌-◌, ◌++◌, drop, length}
use Rattle.miette_runs.specs.rules.Sequences.{spell}
use Rattle.miette_runs.specs.views.Interleaving.{interleaving}
use Rattle.miette_text.specs.views.Cutting.{word_cuts}
use Rattle.miette_text.proofs.LineWise.{text_of}
use Rattle.miette_text.proofs.wrapping.lines.push_filled.Given as goal

abbrev pub invariant-rest : goal.invariant-rest
invariant-rest g l = record {
  printed : g.S.Canvas.written l.out ++ text_of (word_cuts g.W.WordParts.separator l.cuts)
      (spell (interleaving 0 l.under.further.codes.now l.under.further.tags.now)) l.room l.under.further_room
      (interleaving l.start (drop l.start (g.C.Codes.codes l.text.codes)) (drop l.used l.text.tags.now))
      ≡ g.S.Canvas.written l.fn.out ++ text_of (word_cuts g.W.WordParts.separator l.cuts)
      (spell (interleaving 0 l.under.further.codes.now l.under.further.tags.now)) l.under.room l.under.further_room
      (interleaving 0 (g.C.Codes.codes l.text.codes) l.text.tags.now);
  within : l.start ≤ length (g.C.Codes.codes l.text.codes);
  marked : l.used ≤ length l.text.tags.now;
}

abbrev pub decreases-rest : goal.decreases-rest
decreases-rest g l = length (g.C.Codes.codes l.text.codes) - l.start
