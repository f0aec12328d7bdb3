use Rattle.std.proofs.Common.{◌+◌, ◌∙◌, sym, ap, map}
use Rattle.std.proofs.lemmas.Iterator.Adapters.{position_from-zero}
use Rattle.miette_brief.specs.rules.LocatedLabels.{is_wanted}
use Rattle.miette_brief.specs.steps.CommandParts.{located_label_of}
use Rattle.miette_brief.proofs.PrimaryLabels.{from_here, from_later, from_none}
use Rattle.miette_brief.proofs.located_labels.first_at.Goals as goal

pub loop-mark-preserved : goal.loop-mark-preserved
loop-mark-preserved g c =
    let f = located_label_of g.S.SourceCode.source in
    record {
      found = from_later (is_wanted c.args.marked) f c.args.marks.now c.loop-mark.mark-index c.mark-item.result
          c.loop-mark.at _ c.loop-mark-test.true c.mark-item.is (sym c.is_wanted.ensures ∙ c.if-is_wanted.false)
          c.loop-mark.invariant.found;
      same = ap (λ n. n + 1) c.loop-mark.invariant.same;
    }

pub returns-then-is_wanted : goal.returns-then-is_wanted
returns-then-is_wanted g c =
    let f = located_label_of g.S.SourceCode.source in
    from_here (is_wanted c.args.marked) f c.args.marks.now c.loop-mark.mark-index c.mark-item.result c.loop-mark.at _
    c.loop-mark-test.true c.mark-item.is (sym c.is_wanted.ensures ∙ c.if-is_wanted.true) c.loop-mark.invariant.found
    ∙ sym (position_from-zero (is_wanted c.args.marked) (map f c.args.marks.now))

pub returns : goal.returns
returns g c =
    let f = located_label_of g.S.SourceCode.source in
    from_none (is_wanted c.args.marked) f c.args.marks.now c.loop-mark.mark-index c.loop-mark.at _
    c.loop-mark-test.false c.loop-mark.invariant.found
    ∙ sym (position_from-zero (is_wanted c.args.marked) (map f c.args.marks.now))
