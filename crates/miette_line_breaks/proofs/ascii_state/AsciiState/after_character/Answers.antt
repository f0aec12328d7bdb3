use Rattle.std.proofs.Common.{◌∙◌, sym, arith}
use Rattle.miette_line_breaks.proofs.PrintableTable.{begins_ascii_state-none, hebrew-none, kind-after, kind-none}
use Rattle.miette_line_breaks.proofs.PrintableTable.{kind-row}
use Rattle.miette_line_breaks.proofs.PrintableTable.{space-after}
use Rattle.miette_line_breaks.proofs.ascii_state.AsciiState.after_character.Goals as goal

pub returns-then-is_empty : goal.returns-then-is_empty
returns-then-is_empty c =
    space-after c.args.state c.args.c c.if-c-eq32.true (sym c.is_empty.ensures ∙ c.if-is_empty.true)

pub returns-then-kind-eq14 : goal.returns-then-kind-eq14
returns-then-kind-eq14 c =
    begins_ascii_state-none c.args.state c.args.c (kind-none c.args.c c.if-code-ge128.false
    (omega (arith, c.if-kind-eq14.true)))

pub returns-then-ends_hebrew : goal.returns-then-ends_hebrew
returns-then-ends_hebrew c =
    hebrew-none c.args.state c.args.c c.if-c-eq32.false (sym c.ends_hebrew.ensures ∙ c.if-ends_hebrew.true)

pub invariant_of-result-2 : goal.invariant_of-result-2
invariant_of-result-2 c = record { small = kind-row c.args.c c.if-code-ge128.false }

pub returns : goal.returns
returns c =
    kind-after c.args.state c.args.c c.if-code-ge128.false c.if-c-eq32.false c.if-kind-eq14.false
    (sym c.ends_hebrew.ensures ∙ c.if-ends_hebrew.false)
