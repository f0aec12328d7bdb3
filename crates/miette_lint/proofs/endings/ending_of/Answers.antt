use Rattle.std.proofs.Common.{Option, subst}
use Rattle.miette_lines.specs.declared.lines.LineOfText.{LineOfText}
use Rattle.miette_lines.specs.views.Walking.{GivesLine}
use Rattle.miette_lint.proofs.FirstEndings.{first_ends}
use Rattle.miette_lint.proofs.endings.ending_of.Goals as goal

pub ending_text-requires : goal.ending_text-requires
ending_text-requires c =
    let given = subst (λ (r : Option LineOfText). GivesLine c.new-lines.result r c.next.new.self) c.in-Some.is
    c.next.ensures.steps in
    first_ends c.args.source.now c.new-lines.result c.in-Some.line c.new-lines.ensures given.0 c.if-line.true
