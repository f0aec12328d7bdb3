use Rattle.callers.proofs.text.push_hint.Goals as goal

pub returns-clause-ok : goal.returns-clause-ok
returns-clause-ok c = c.fill.ensures.ok
