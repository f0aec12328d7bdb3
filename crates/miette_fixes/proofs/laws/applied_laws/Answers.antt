use Rattle.miette_fixes.proofs.Moving.{lengths, outside, order}
use Rattle.miette_fixes.proofs.AppliedStanding.{texts, whole}
use Rattle.miette_fixes.proofs.laws.applied_laws.Goals as goal

pub returns-clause-lengths : goal.returns-clause-lengths
returns-clause-lengths c = lengths

pub returns-clause-outside : goal.returns-clause-outside
returns-clause-outside c = outside

pub returns-clause-order : goal.returns-clause-order
returns-clause-order c = order

pub returns-clause-texts : goal.returns-clause-texts
returns-clause-texts c = texts

pub returns-clause-whole : goal.returns-clause-whole
returns-clause-whole c = whole
