use Rattle.std.proofs.Common.{sym, ap, ◌∙◌, [], chars}
use Rattle.miette_line_breaks.specs.steps.States.{breaks_after}
use Rattle.miette_line_breaks.proofs.States.{breaks-are}
use Rattle.miette_line_breaks.proofs.remaining.LineBreaks.new.Goals as goal

pub returns : goal.returns
returns c =
    let cs = chars c.args.text.now in
    ap (λ s. breaks_after s 0 cs) c.start.ensures ∙ sym (breaks-are [] 0 cs)
