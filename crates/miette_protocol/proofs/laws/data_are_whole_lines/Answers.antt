use Rattle.miette_protocol.proofs.Wholes.{numbers}
use Rattle.miette_protocol.proofs.laws.data_are_whole_lines.Goals as goal

pub returns-clause-numbers : goal.returns-clause-numbers
returns-clause-numbers c = λ source span before after k h g lt. numbers source span before after k h g lt
