use Rattle.miette_text.proofs.KeptTokens.{rows_kept, text_kept}
use Rattle.miette_text.proofs.wrap_laws.keeping_law.Goals as goal

pub returns-clause-rows : goal.returns-clause-rows
returns-clause-rows c = rows_kept

pub returns-clause-text : goal.returns-clause-text
returns-clause-text c = text_kept
