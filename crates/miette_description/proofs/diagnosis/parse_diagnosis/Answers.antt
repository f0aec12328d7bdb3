use Rattle.std.proofs.Common.{rules, ◌∙◌}
use Rattle.miette_description.proofs.Shape.{given_some, given_none}
use Rattle.miette_description.proofs.diagnosis.parse_diagnosis.Goals as goal

pub returns-in_err-diagnostic-clause-description : goal.returns-in_err-diagnostic-clause-description
returns-in_err-diagnostic-clause-description g c e =
    given_none _ (c.in_err-diagnostic.ensures.description (search rules))

pub returns-in_err-snippets-clause-description : goal.returns-in_err-snippets-clause-description
returns-in_err-snippets-clause-description g c e =
    given_some _ _ c.in_ok-diagnostic.ensures.ok ∙ given_none _ (c.in_err-snippets.ensures.description (search rules))

pub returns-in_err-fixes-clause-description : goal.returns-in_err-fixes-clause-description
returns-in_err-fixes-clause-description g c e =
    given_some _ _ c.in_ok-diagnostic.ensures.ok ∙ given_some _ _ c.in_ok-snippets.ensures.ok
    ∙ given_none _ (c.in_err-fixes.ensures.description (search rules))

pub returns-clause-ok : goal.returns-clause-ok
returns-clause-ok g c =
    given_some _ _ c.in_ok-diagnostic.ensures.ok ∙ given_some _ _ c.in_ok-snippets.ensures.ok
    ∙ given_some _ _ c.in_ok-fixes.ensures.ok
