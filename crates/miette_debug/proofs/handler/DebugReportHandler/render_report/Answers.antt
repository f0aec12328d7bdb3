use Rattle.miette_tree.proofs.Written.{only_memory}
use Rattle.miette_debug.proofs.handler.DebugReportHandler.render_report.Goals as goal

pub returns-clause-text : goal.returns-clause-text
returns-clause-text g c = c.append_report_text.ensures.text

pub returns-clause-memory : goal.returns-clause-memory
returns-clause-memory g c = only_memory c.append_report_text.result c.append_report_text.ensures.refused

pub returns-clause-err : goal.returns-clause-err
returns-clause-err g c = c.append_report_text.ensures.err
