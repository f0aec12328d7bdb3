use Rattle.miette_style.specs.views.Printouts.{◌⊕◌}
use Rattle.std.proofs.Common.{◌≡◌, ◌-◌, take, drop}
use Rattle.miette_snippet_rules.specs.steps.CellTokens.{cells_tokens}
use Rattle.miette_snippet_rules.proofs.cut_text.push_all.Given as goal

abbrev pub invariant-loop : goal.invariant-loop
invariant-loop g l = record {
  told : l.page ⊕ cells_tokens (take (l.many - l.counter) l.walk) ≡ l.fn.page ⊕ cells_tokens (take l.many l.fn.walk);
  later : drop (l.many - l.counter) l.walk ≡ drop l.many l.fn.walk;
}
