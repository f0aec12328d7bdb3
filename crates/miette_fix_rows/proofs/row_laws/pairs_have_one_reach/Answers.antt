use Rattle.std.proofs.Common.{arith, refl}
use Rattle.miette_fix_rows.proofs.ChangedCuts.{own_reach}
use Rattle.miette_fix_rows.proofs.row_laws.pairs_have_one_reach.Goals as goal

pub returns-clause-same : goal.returns-clause-same
returns-clause-same c = λ s limit line other. omega arith

pub returns-clause-room : goal.returns-clause-room
returns-clause-room c = λ s limit line other. omega arith

pub returns-clause-largest : goal.returns-clause-largest
returns-clause-largest c = λ s limit line other reach one two. omega arith

pub returns-clause-alone : goal.returns-clause-alone
returns-clause-alone c = λ s limit line. refl

pub returns-clause-reach : goal.returns-clause-reach
returns-clause-reach c = own_reach
