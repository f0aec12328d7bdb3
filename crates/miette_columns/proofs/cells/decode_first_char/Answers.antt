use Rattle.bstr.proofs.lemmas.PieceLemmas.{piece-bounds}
use Rattle.std.proofs.Common.{◌<◌, ◌≤◌, length, subst, sym}
use Rattle.miette_columns.proofs.cells.decode_first_char.Goals as goal

pub returns-clause-some : goal.returns-clause-some
returns-clause-some c = subst (λ n. 0 < n) (sym c.decode_lossy.ensures.size)
    (piece-bounds c.args.bytes.now c.requires).0

pub returns-clause-within : goal.returns-clause-within
returns-clause-within c = subst (λ n. n ≤ length c.args.bytes.now) (sym c.decode_lossy.ensures.size)
    (piece-bounds c.args.bytes.now c.requires).2
