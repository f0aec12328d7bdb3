use Rattle.std.proofs.Common.{◌+◌, ◌<◌, length, ap, refl, arith}
use Rattle.miette_columns.proofs.Columning.{is_next}
use Rattle.miette_columns.proofs.Running.{next_trail, first_bytes}
use Rattle.miette_columns.proofs.trails.after_first.Goals as goal

pub returns-clause-trail : goal.returns-clause-trail
returns-clause-trail c =
    let inside : c.args.trail.bytes < length c.args.text.now = omega (arith, c.requires.some, c.requires.trail.0.1.0) in
    let next = is_next _ _ _ _ inside c.decode_first_char-size.ensures in
    next_trail c.args.text.now c.args.trail _ _ _ c.requires.trail c.requires.some next.first next.some refl refl refl
    refl

pub returns-clause-bytes : goal.returns-clause-bytes
returns-clause-bytes c =
    let inside : c.args.trail.bytes < length c.args.text.now = omega (arith, c.requires.some, c.requires.trail.0.1.0) in
    ap (λ n. c.args.trail.bytes + n) (first_bytes c.args.text.now c.args.trail.bytes _ _
    (is_next _ _ _ _ inside c.decode_first_char-size.ensures).first)
