use Rattle.miette_style.specs.views.Printouts.{◌⊕◌}
use Rattle.std.proofs.Common.{◌≡◌, take, drop}
use Rattle.miette_snippet_rules.specs.rules.PrintedCells.{cells_within, cells_beyond}
use Rattle.miette_snippet_rules.specs.steps.CellTokens.{cells_tokens}
use Rattle.miette_snippet_rules.proofs.cut_text.push_some.Given as goal

abbrev pub invariant-loop-left : goal.invariant-loop-left
invariant-loop-left g l = record {
  within : l.page ⊕ cells_tokens (cells_within l.left (take l.many l.walk)) ≡ l.fn.page
      ⊕ cells_tokens (cells_within l.fn.bytes (take l.fn.many l.fn.walk));
  beyond : cells_beyond l.left (take l.many l.walk) ≡ cells_beyond l.fn.bytes (take l.fn.many l.fn.walk);
  later : drop l.many l.walk ≡ drop l.fn.many l.fn.walk;
}

abbrev pub decreases-loop-left : goal.decreases-loop-left
decreases-loop-left g l = l.left
