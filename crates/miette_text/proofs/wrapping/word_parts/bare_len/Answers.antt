use Rattle.std.proofs.Common.{◌≡◌, ◌∙◌, ap, arith, sym, take}
use Rattle.std.proofs.lemmas.List.{take_all}
use Rattle.miette_runs.specs.steps.Cells.{bare_cells}
use Rattle.miette_text.specs.steps.Ends.{bare_len}
use Rattle.miette_text.proofs.InterleavedCells.{plain_found, plain_shorter}
use Rattle.miette_text.proofs.wrapping.word_parts.bare_len.Goals as goal

pub rest-init : goal.rest-init
rest-init g c =
    let cs = g.C.Codes.codes c.args.row in
    record {
      same = ap (λ xs. bare_len (bare_cells xs)) (take_all c.count-n.result cs (omega (arith, c.count-n.ensures)));
      within = omega (arith, c.count-n.ensures);
    }

pub returns-then-last-ne32-clause-value : goal.returns-then-last-ne32-clause-value
returns-then-last-ne32-clause-value g c =
    plain_found (g.C.Codes.codes c.args.row) c.rest.n 0 c.rest-test.true c.rest.invariant.within
    (λ e. c.if-last-ne32.true (c.at-last.ensures ∙ e)) ∙ c.rest.invariant.same

pub rest-preserved : goal.rest-preserved
rest-preserved g c = record {
  same = plain_shorter (g.C.Codes.codes c.args.row) c.rest.n 0 c.rest-test.true c.rest.invariant.within
      (sym c.at-last.ensures ∙ c.if-last-ne32.false) ∙ c.rest.invariant.same;
  within = omega arith;
}

pub returns-clause-value : goal.returns-clause-value
returns-clause-value g c =
    let none : c.rest.n ≡ 0 = omega (arith, c.rest-test.false) in
    ap (λ k. bare_len (bare_cells (take k (g.C.Codes.codes c.args.row)))) (sym none) ∙ c.rest.invariant.same
