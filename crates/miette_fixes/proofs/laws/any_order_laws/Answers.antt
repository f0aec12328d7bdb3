use Rattle.std.proofs.Common.{[], length}
use Rattle.miette_fixes.specs.rules.ApplyingAll.{counted}
use Rattle.miette_fixes.proofs.Apart.{counted_apart, taken_apart}
use Rattle.miette_fixes.proofs.Permuted.{permuted}
use Rattle.miette_fixes.proofs.laws.any_order_laws.Goals as goal

pub returns-clause-taken : goal.returns-clause-taken
returns-clause-taken c = taken_apart

pub returns-clause-counted : goal.returns-clause-counted
returns-clause-counted c = counted_apart

pub returns-clause-order : goal.returns-clause-order
returns-clause-order c = permuted

pub returns-clause-text : goal.returns-clause-text
returns-clause-text c = λ source fixes others shifted_offset.
    permuted source (counted (length source) [] fixes) others (counted_apart (length source) fixes) shifted_offset
