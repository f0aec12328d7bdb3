use Rattle.std.proofs.Common.{ap, sym, ◌∙◌}
use Rattle.std.specs.List.{fold}
use Rattle.std.proofs.lemmas.List.{take_all}
use Rattle.miette_read.specs.rules.AnnotationLabels.{LabelLists, no_label_lists, with_annotation}
use Rattle.miette_read.proofs.Steps.{fold_next}
use Rattle.miette_read.proofs.label_lists.label_lists.Goals as goal

pub loop-one-preserved : goal.loop-one-preserved
loop-one-preserved g c =
    let one = with_annotation (g.F.Files.found c.args.files.now) in
    let x = c.one-item.result in
    c.in_ok-add_annotation.ensures ∙ ap (λ (done : LabelLists). one done x) c.loop-one.invariant
    ∙ sym (fold_next one no_label_lists c.args.told.now c.loop-one.one-index x c.loop-one-test.true c.one-item.is)

pub returns : goal.returns
returns g c =
    let one = with_annotation (g.F.Files.found c.args.files.now) in
    c.loop-one.invariant
    ∙ ap (fold one no_label_lists) (take_all c.loop-one.one-index c.args.told.now c.loop-one-test.false)
