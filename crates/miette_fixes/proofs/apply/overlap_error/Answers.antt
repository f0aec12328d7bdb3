use Rattle.std.proofs.Common.{◌≤◌, arith, length, rules}
use Rattle.miette_fixes.proofs.Indices.{index_at_most}
use Rattle.miette_fixes.proofs.apply.overlap_error.Goals as goal

pub overflow_add-from : goal.overflow_add-from
overflow_add-from c =
    let is = c.index_from-first.ensures in
    let most = index_at_most c.args.edit.now c.args.edits.now in
    let within : c.index_from-first.result ≤ length c.args.edits.now = omega (arith, is, most) in
    search rules
