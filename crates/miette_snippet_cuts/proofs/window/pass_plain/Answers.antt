use Rattle.std.proofs.Common.{refl}
use Rattle.miette_snippet_cuts.proofs.WindowColumns.{plain_passed}
use Rattle.miette_snippet_cuts.proofs.window.pass_plain.Goals as goal

pub returns : goal.returns
returns c =
    plain_passed c.args.end _ c.in_ok-plain.plain c.args.window.now c.pass_plain.new.self c.in_ok-window.field-0
    c.requires refl c.in_ok-plain.ensures.few c.in_ok-plain.ensures.passed c.in_ok-window.ensures
