use Rattle.miette.proofs.options.handler.MietteHandlerReportHandler.debug.Goals as goal

pub returns-in-Graphical-clause-asks : goal.returns-in-Graphical-clause-asks
returns-in-Graphical-clause-asks g c = rw c.in-Graphical.is c.debug.ensures.asks
