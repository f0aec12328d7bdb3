use Rattle.std.proofs.Common.{◌≡◌, ◌∙◌, ap, arith, sym}
use Rattle.miette_read.specs.views.Values.{texts}
use Rattle.miette_read_sarif.specs.rules.Newlines.{nth_line_start, line_size}
use Rattle.miette_read_sarif.proofs.NewlineSteps.{next_line, no_line, rest_within}
use Rattle.miette_read_sarif.proofs.newlines.nth_line_start.Goals as goal

pub loop-left-preserved : goal.loop-left-preserved
loop-left-preserved c =
    let l = c.loop-left in
    let newlines = texts c.args.ends.now.newlines.items in
    let bytes = c.args.bytes.now in
    let size = c.in-Some.size in
    record {
      within = rest_within bytes c.rest_from.result.now l.at size l.invariant.within c.rest_from.ensures
          c.in-Some.ensures.within;
      same = l.invariant.same
          ∙ next_line newlines bytes l.at l.left size c.loop-left-test.true
          (c.in-Some.ensures.value ∙ ap (line_size newlines) c.rest_from.ensures);
    }

pub returns-in-None-clause-value : goal.returns-in-None-clause-value
returns-in-None-clause-value c =
    let l = c.loop-left in
    let newlines = texts c.args.ends.now.newlines.items in
    sym (l.invariant.same
    ∙ no_line newlines c.args.bytes.now l.at l.left c.loop-left-test.true
    (c.in-None.ensures.value ∙ ap (line_size newlines) c.rest_from.ensures))

pub returns-clause-value : goal.returns-clause-value
returns-clause-value c =
    let l = c.loop-left in
    let newlines = texts c.args.ends.now.newlines.items in
    let none : l.left ≡ 0 = omega (arith, c.loop-left-test.false) in
    sym (l.invariant.same ∙ ap (nth_line_start newlines c.args.bytes.now l.at) none)
