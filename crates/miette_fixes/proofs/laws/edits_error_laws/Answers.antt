use Rattle.miette_fixes.proofs.Named.{named, outside_named}
use Rattle.miette_fixes.proofs.Overlaps.{none_refused}
use Rattle.miette_fixes.proofs.laws.edits_error_laws.Goals as goal

pub returns-clause-outside : goal.returns-clause-outside
returns-clause-outside c = outside_named

pub returns-clause-overlap : goal.returns-clause-overlap
returns-clause-overlap c = named

pub returns-clause-valid : goal.returns-clause-valid
returns-clause-valid c = none_refused
