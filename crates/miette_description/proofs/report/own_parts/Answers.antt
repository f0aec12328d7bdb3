use Rattle.std.proofs.Common.{rules, ◌∙◌}
use Rattle.miette_description.proofs.Shape.{given_some, given_none}
use Rattle.miette_description.proofs.report.own_parts.Goals as goal

pub returns-in_err-said-clause-description : goal.returns-in_err-said-clause-description
returns-in_err-said-clause-description g c e one related =
    given_none _ (c.in_err-said.ensures.description (search rules))

pub returns-in_err-source-clause-description : goal.returns-in_err-source-clause-description
returns-in_err-source-clause-description g c e one related =
    given_some _ _ c.in_ok-said.ensures.ok ∙ given_none _ (c.in_err-source.ensures.description (search rules))

pub returns-in_err-several-clause-description : goal.returns-in_err-several-clause-description
returns-in_err-several-clause-description g c e one related =
    given_some _ _ c.in_ok-said.ensures.ok ∙ given_some _ _ c.in_ok-source.ensures.ok
    ∙ given_none _ (c.in_err-several.ensures.description (search rules))

pub returns-in_err-contexts-clause-description : goal.returns-in_err-contexts-clause-description
returns-in_err-contexts-clause-description g c e one related =
    given_some _ _ c.in_ok-said.ensures.ok ∙ given_some _ _ c.in_ok-source.ensures.ok
    ∙ given_some _ _ c.in_ok-several.ensures.ok ∙ given_none _ (c.in_err-contexts.ensures.description (search rules))
