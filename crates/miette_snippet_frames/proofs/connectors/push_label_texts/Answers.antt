use Rattle.std.proofs.Common.{◌<◌, ◌-◌, ◌+◌, ◌≡◌, ◌≤◌, length, arith}
use Rattle.miette_snippet_frames.specs.views.LineContexts.{before_underlines}
use Rattle.miette_snippet_rules.specs.views.MadeUnderlines.{no_underline}
use Rattle.miette_snippet_frames.proofs.TextRows.{below_more}
use Rattle.miette_snippet_frames.proofs.connectors.push_label_texts.Goals as goal
use Rattle.miette_snippet_frames.specs.views.LineContexts.{settings}

pub loop-place-preserved : goal.loop-place-preserved
loop-place-preserved g c =
    let within : c.loop-place.place - 1 ≤ length c.args.marks.now = omega (arith, c.loop-place.invariant.within) in
    let some : c.loop-place.place - 1 < length c.args.marks.now =
    omega (arith, c.loop-place.invariant.within, c.loop-place-test.true) in
    let next : c.loop-place.place ≡ c.loop-place.place - 1 + 1 = omega (arith, c.loop-place-test.true) in
    record {
      within = within;
      told = below_more (settings c.args.context.now)
          (before_underlines c.args.context.now) c.args.marks.now c.loop-place.place (c.loop-place.place - 1)
          no_underline
          c.args.page.now c.loop-place.page c.push_text.new.page some next c.loop-place.invariant.told
          c.in_ok-push_text.ensures;
    }
