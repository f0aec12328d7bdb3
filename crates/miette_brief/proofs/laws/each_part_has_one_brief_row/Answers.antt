use Rattle.miette_brief.proofs.Counting.{one_for_each, given_each}
use Rattle.miette_brief.proofs.laws.each_part_has_one_brief_row.Goals as goal

pub returns-clause-rows : goal.returns-clause-rows
returns-clause-rows c = λ s t a is. one_for_each s t a is

pub returns-clause-given : goal.returns-clause-given
returns-clause-given c = λ s t text is h. given_each s t text is h
