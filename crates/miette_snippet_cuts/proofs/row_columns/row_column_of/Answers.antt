use Rattle.std.proofs.Common.{◌+◌, ◌≤◌, ◌∙◌, ap, refl, arith}
use Rattle.std.proofs.lemmas.Result.{IfOk-weaker}
use Rattle.miette_snippet_cuts.specs.steps.Moving.{IsRowCursor}
use Rattle.miette_snippet_cuts.proofs.PassedStretches.{place_end, place_found, place_here, place_more}
use Rattle.miette_snippet_cuts.proofs.row_columns.row_column_of.Goals as goal

pub loop-place-init : goal.loop-place-init
loop-place-init c =
    let found : IsRowCursor c.args.dots c.args.cut.now c.place_for.result × (c.place_for.result.before ≤ c.args.column)
    =
    place_found c.args.dots c.args.cut.now c.args.place.now c.place_for.result c.args.column c.place_for.ensures.anew
    c.place_for.ensures.on c.requires in
    record { place = found.0; before = found.1 }

pub loop-place-preserved : goal.loop-place-preserved
loop-place-preserved c = record {
  place = place_more c.args.dots c.args.cut.now c.loop-place.place _ _ c.loop-place-test.true refl refl
      (c.in_ok-row.ensures ∙ ap (λ n. c.loop-place.place.row + n) c.shown_columns.ensures)
      c.loop-place.invariant.place;
  before = omega (arith, c.loop-place.invariant.before, c.if-left-columns.false);
}

pub returns-then-left-columns-clause-column : goal.returns-then-left-columns-clause-column
returns-then-left-columns-clause-column c =
    IfOk-weaker c.sum.result _ _ (λ inside is.
    place_here c.args.dots c.args.cut.now c.loop-place.place c.args.column c.column_within.result inside _
    c.loop-place-test.true c.loop-place.invariant.before c.if-left-columns.true c.column_within.ensures
    is c.loop-place.invariant.place) c.sum.ensures

pub returns-clause-column : goal.returns-clause-column
returns-clause-column c =
    IfOk-weaker c.sum-2.result _ _ (λ after is.
    place_end c.args.dots c.args.cut.now c.loop-place.place c.args.column after c.loop-place-test.false
    c.loop-place.invariant.before is c.loop-place.invariant.place) c.sum-2.ensures
