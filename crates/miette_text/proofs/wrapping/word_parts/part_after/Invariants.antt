use Rattle.std.proofs.Common.{◌≡◌, ◌+◌, ◌-◌, ◌≤◌, drop, length, take}
use Rattle.miette_text.specs.declared.options.WordSeparator.{WordSeparator}
use Rattle.miette_text.specs.steps.Ends.{part_len}
use Rattle.miette_text.specs.views.Cutting.{word_cuts}
use Rattle.miette_runs.specs.steps.Cells.{code_columns}
use Rattle.miette_text.proofs.wrapping.word_parts.part_after.Given as goal

abbrev pub invariant-rest : goal.invariant-rest
invariant-rest g l =
    let cs = g.C.Codes.codes l.codes in record {
      len : (separator : WordSeparator) →
          part_len g.T.WordEnd.stop (word_cuts separator l.cuts) l.fn.first l.fn.columns cs
          ≡ l.i + part_len g.T.WordEnd.stop (word_cuts separator l.cuts) l.before l.used (drop l.i cs);
      columns : l.used ≡ l.fn.columns + code_columns (take l.i cs);
      within : l.i ≤ length cs;
    }

abbrev pub decreases-rest : goal.decreases-rest
decreases-rest g l = length (g.C.Codes.codes l.codes) - l.i
