use Rattle.std.proofs.Common.{ap, ◌∙◌}
use Rattle.miette_runs.specs.rules.Sequences.{tokens}
use Rattle.miette_runs.specs.rules.Cells.{printed_columns}
use Rattle.miette_text.proofs.Commuting.{printed_columns-erased}
use Rattle.miette_text.proofs.Erasing.{tokens-erase}
use Rattle.miette_text.proofs.wrap_laws.columns_law.Goals as goal

pub returns : goal.returns
returns c = λ text h. ap printed_columns (tokens-erase text h) ∙ printed_columns-erased (tokens text)
