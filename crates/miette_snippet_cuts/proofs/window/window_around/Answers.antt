use Rattle.std.proofs.Common.{refl}
use Rattle.miette_snippet_cuts.specs.declared.window.Window.{Window}
use Rattle.miette_snippet_cuts.specs.steps.Windows.{HoldsNear}
use Rattle.miette_snippet_cuts.proofs.WindowColumns.{window_begun, window_moved}
use Rattle.miette_snippet_cuts.proofs.window.window_around.Goals as goal

pub returns-then-first-limit : goal.returns-then-first-limit
returns-then-first-limit c =
    window_begun c.args.limit c.args.ends.now c.args.walk.now c.in_ok-after.after _ c.requires.some
    c.requires.ascending c.requires.stands c.copy.ensures refl c.in_ok-after.ensures c.in_ok-stop.ensures

pub returns : goal.returns
returns c =
    let begun : Window = record { walk = c.copy.result; column = 0; stop = c.in_ok-stop.stop } in
    let held : HoldsNear c.args.limit c.args.ends.now c.args.walk.now begun =
    window_begun c.args.limit c.args.ends.now c.args.walk.now c.in_ok-after.after begun c.requires.some
    c.requires.ascending c.requires.stands c.copy.ensures refl c.in_ok-after.ensures c.in_ok-stop.ensures in
    window_moved c.args.limit c.args.ends.now c.args.walk.now _ begun _ c.requires.some c.requires.ascending
    c.if-first-limit.false refl held c.in_ok-pass_front.ensures
