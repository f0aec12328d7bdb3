use Rattle.std.proofs.Common.{◌∙◌, ap, sym}
use Rattle.miette_runs.specs.views.Interleaving.{sign_text}
use Rattle.miette_runs.proofs.runs.sign.shared_sign.Goals as goal

pub returns-then-are_alike : goal.returns-then-are_alike
returns-then-are_alike c =
    ap sign_text (c.in_ok-copy.ensures.cases ∙ sym c.deref.ensures)
    ∙ c.are_alike.ensures c.if-are_alike.true
    ∙ ap sign_text c.loop-tag.invariant

pub returns : goal.returns
returns c = ap sign_text (c.in_ok-own.ensures.ok ∙ c.loop-tag.invariant)
