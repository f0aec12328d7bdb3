use Rattle.miette.proofs.reporter.handler.FormHandlerReportHandler.debug.Goals as goal

pub returns-in-Chosen-clause-asks : goal.returns-in-Chosen-clause-asks
returns-in-Chosen-clause-asks g c = rw c.in-Chosen.is c.debug.ensures.asks
