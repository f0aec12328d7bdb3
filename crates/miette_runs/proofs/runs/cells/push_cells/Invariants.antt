use Rattle.std.proofs.Common.{◌≡◌, ◌<◌, ◌++◌, drop, length}
use Rattle.miette_runs.specs.rules.Cells.{piece_text}
use Rattle.miette_runs.specs.views.Interleaving.{cells_at, left_at}
use Rattle.miette_runs.proofs.runs.cells.push_cells.Given as goal

abbrev pub invariant-loop-n : goal.invariant-loop-n
invariant-loop-n g l =
    let cs = g.C.Codes.codes l.codes in record {
      printed : g.S.Canvas.written l.out ++ piece_text (cells_at l.place (drop l.start cs) (drop l.n l.tags))
          ≡ g.S.Canvas.written l.fn.out ++ piece_text (cells_at l.at cs l.tags);
      left : left_at l.place (drop l.start cs) (drop l.n l.tags) ≡ left_at l.at cs l.tags;
      inside : l.start < length cs;
    }
