use Rattle.std.proofs.Common.{◌≡◌, ℕ, ◌-◌, ◌≤◌, nat_lt, false, List, [], drop, take, length}
use Rattle.miette_runs.specs.rules.Cells.{TaggedChar}
use Rattle.miette_text.specs.steps.Ends.{codes_of}
use Rattle.miette_text.specs.views.Cutting.{word_cuts}
use Rattle.miette_text.proofs.Packing.{pack}
use Rattle.miette_text.proofs.wrapping.word_parts.row_len.Given as goal

abbrev pub invariant-rest : goal.invariant-rest
invariant-rest g l =
    let cuts = word_cuts g.W.WordParts.separator l.cuts in
    let cs = g.C.Codes.codes l.codes in record {
      packed : (cells : List TaggedChar) (further : ℕ) → codes_of cells ≡ cs →
          pack false [] 0 l.room further (g.W.WordParts.left l.fn.first cuts cells)
          ≡ pack (nat_lt 0 l.end) (take l.end cells) l.used l.room further
          (g.W.WordParts.left l.words cuts (drop l.end cells));
      fits : g.W.WordParts.fits l.words (drop l.end cs);
      within : l.end ≤ length cs;
    }

abbrev pub decreases-rest : goal.decreases-rest
decreases-rest g l = length (g.C.Codes.codes l.codes) - l.end
