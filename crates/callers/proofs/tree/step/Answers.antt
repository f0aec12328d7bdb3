use Rattle.std.proofs.Common.{inl, inr, rules}
use Rattle.callers.proofs.Wrapping.{told_after}
use Rattle.callers.proofs.tree.step.Goals as goal

pub returns-clause-err : goal.returns-clause-err
returns-clause-err g c = told_after c.args.outcome c.wrap_err.result _ _ _ (λ e r h. search rules)
    (λ report r told. elim told [ inl front ↦ inl front.0 | inr refused ↦ inr refused.0 ]) c.wrap_err.ensures.missing
