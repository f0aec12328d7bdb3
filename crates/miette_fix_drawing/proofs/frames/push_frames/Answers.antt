use Rattle.std.proofs.Common.{refl, subst, sym, length, arith}
use Rattle.std.specs.List.{AllByRecursion}
use Rattle.std.proofs.lemmas.List.{take_rest}
use Rattle.miette_lines.proofs.Places.{line_of_none}
use Rattle.miette_fix_drawing.specs.steps.Framing.{PointsWithin}
use Rattle.miette_fix_drawing.specs.steps.Places.{HunkIsIn}
use Rattle.miette_fix_drawing.specs.views.Hunks.{hunks_of}
use Rattle.miette_fix_drawing.proofs.Framing.{all_drop, hunks_drop}
use Rattle.miette_fix_drawing.proofs.frames.push_frames.Goals as goal

pub loop-done-init : goal.loop-done-init
loop-done-init g c = record {
  rows = refl;
  within = omega arith;
  cursor = record {
    within = omega arith;
    line = sym (line_of_none c.args.drawing.now.source.now);
    asked = c.requires.asked;
  };
}

pub push_next-requires-clause-places : goal.push_next-requires-clause-places
push_next-requires-clause-places g c =
    let hunks = c.args.hunks.now in
    let done = c.loop-done.done in
    let points = PointsWithin (length c.args.drawing.now.source.now) in
    subst (λ l. AllByRecursion points (hunks_of l)) (sym (take_rest hunks done))
    (subst (λ l. AllByRecursion points l) (sym (hunks_drop done hunks))
    (all_drop points done (hunks_of hunks) c.requires.places))

pub push_next-requires-clause-stand : goal.push_next-requires-clause-stand
push_next-requires-clause-stand g c =
    let hunks = c.args.hunks.now in
    let stands = HunkIsIn c.args.drawing.now.source.now in
    subst (AllByRecursion stands) (sym (take_rest hunks c.loop-done.done))
    (all_drop stands c.loop-done.done hunks c.requires.stand)
