use Rattle.std.proofs.Common.{◌-◌, ◌/◌, refl, arith}
use Rattle.miette_snippet_cuts.proofs.Reaching.{between_first, halved_by, halving_ends, leaves_room}
use Rattle.miette_snippet_cuts.proofs.reach.reach_in.Goals as goal

pub loop-low-init : goal.loop-low-init
loop-low-init c = between_first (leaves_room c.args.limit c.args.dots c.args.ends.now c.args.walk.now) c.args.limit

pub fits-requires : goal.fits-requires
fits-requires c = record {
  ascending = c.requires.ascending;
  stands = c.in_ok-window.ensures.stands;
  past = c.in_ok-window.ensures.past (record {
    limit = c.args.limit;
    dots = c.args.dots;
    reach = c.loop-low.high - (c.loop-low.high - c.loop-low.low) / 2;
  }) (omega (arith, c.loop-low.invariant.most));
}

pub loop-low-preserved : goal.loop-low-preserved
loop-low-preserved c =
    (halved_by (record { limit = c.args.limit; dots = c.args.dots; reach = _ }) c.args.ends.now c.args.walk.now
    c.in_ok-window.window c.loop-low.low c.loop-low.high c.narrowed-from.result.0 c.narrowed-from.result.1
    c.in_ok-enough.enough c.loop-low-test.true refl c.requires.some c.in_ok-window.ensures c.in_ok-enough.ensures
    c.narrowed-from.ensures.yes c.narrowed-from.ensures.no c.loop-low.invariant).0

pub loop-low-smaller : goal.loop-low-smaller
loop-low-smaller c =
    (halved_by (record { limit = c.args.limit; dots = c.args.dots; reach = _ }) c.args.ends.now c.args.walk.now
    c.in_ok-window.window c.loop-low.low c.loop-low.high c.narrowed-from.result.0 c.narrowed-from.result.1
    c.in_ok-enough.enough c.loop-low-test.true refl c.requires.some c.in_ok-window.ensures c.in_ok-enough.ensures
    c.narrowed-from.ensures.yes c.narrowed-from.ensures.no c.loop-low.invariant).1

pub returns : goal.returns
returns c = halving_ends c.args.limit c.args.dots c.args.ends.now c.args.walk.now c.loop-low.low c.loop-low.high
    c.loop-low-test.false c.loop-low.invariant
