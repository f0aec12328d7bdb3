use Rattle.std.proofs.Common.{◌+◌, ◌≡◌, ◌≤◌, ◌∙◌, length, min, arith}
use Rattle.miette_fix_drawing.proofs.LinePlaces.{bounded}
use Rattle.miette_fix_drawing.proofs.frame_lines.is_near_hunk.Goals as goal

pub returns : goal.returns
returns c =
    let twice = c.args.context + c.args.context in
    let most : c.saturating_add.result ≡ min twice 18446744073709551615 =
    omega (arith, c.saturating_add.ensures) in
    let within : length c.args.hunk.now.kept.now ≤ 18446744073709551615 = omega arith in
    c.has_at_most_lines.ensures ∙ bounded c.args.hunk.now.kept.now c.saturating_add.result 18446744073709551615 twice
    within most
