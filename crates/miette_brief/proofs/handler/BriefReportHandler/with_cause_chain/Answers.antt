use Rattle.miette_brief.proofs.handler.BriefReportHandler.with_cause_chain.Goals as goal

pub returns : goal.returns
returns c = c.set_cause_chain.ensures
