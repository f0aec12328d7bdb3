use Rattle.std.proofs.Common.{◌≡◌, ◌≤◌, ◌-◌, ◌++◌, drop, length}
use Rattle.miette_runs.specs.rules.Sequences.{spell}
use Rattle.miette_runs.specs.views.Interleaving.{left_at, interleaving}
use Rattle.miette_text.specs.rules.Wrapping.{cut_words}
use Rattle.miette_text.specs.views.Cutting.{word_cuts}
use Rattle.miette_text.proofs.InterleavedRows.{rows_text}
use Rattle.miette_text.proofs.wrapping.lines.push_rows.Given as goal

abbrev pub invariant-rest : goal.invariant-rest
invariant-rest g l =
    let cuts = word_cuts g.W.WordParts.separator l.cuts in
    let further = spell (interleaving 0 l.under.further.codes.now l.under.further.tags.now) in record {
      printed : g.S.Canvas.written l.out ++ rows_text (g.W.WordParts.left l.words cuts) further l.room
          l.under.further_room l.start (drop l.start (g.C.Codes.codes l.line.codes)) (drop l.used l.line.tags.now)
          ≡ g.S.Canvas.written l.fn.out ++ rows_text (cut_words cuts) further l.under.room l.under.further_room
          l.first (drop l.first (g.C.Codes.codes l.line.codes)) l.line.tags.now;
      left : left_at l.start (drop l.start (g.C.Codes.codes l.line.codes)) (drop l.used l.line.tags.now)
          ≡ left_at l.first (drop l.first (g.C.Codes.codes l.line.codes)) l.line.tags.now;
      fits : g.W.WordParts.fits l.words (drop l.start (g.C.Codes.codes l.line.codes));
      within : l.start ≤ length (g.C.Codes.codes l.line.codes);
      marked : l.used ≤ length l.line.tags.now;
    }

abbrev pub decreases-rest : goal.decreases-rest
decreases-rest g l = length (g.C.Codes.codes l.line.codes) - l.start
