use Rattle.std.proofs.Common.{sym, ap, ◌∙◌}
use Rattle.miette_line_breaks.specs.views.Places.{after_code, found_before}
use Rattle.miette_line_breaks.proofs.Plain.{plain-letter, plain-space}
use Rattle.miette_line_breaks.proofs.state.BreakState.stepped.Goals as goal

pub returns-then-is_ascii_alphabetic-clause-found : goal.returns-then-is_ascii_alphabetic-clause-found
returns-then-is_ascii_alphabetic-clause-found c =
    c.before_letter.ensures
    ∙ sym (plain-letter c.args.self.now c.args.c (sym c.is_plain.ensures ∙ c.if-is_plain.true)
    (sym c.is_ascii_alphabetic.ensures.value ∙ c.if-is_ascii_alphabetic.true)).0

pub returns-then-is_ascii_alphabetic-clause-behind : goal.returns-then-is_ascii_alphabetic-clause-behind
returns-then-is_ascii_alphabetic-clause-behind c =
    c.spaced.ensures
    ∙ sym (plain-letter c.args.self.now c.args.c (sym c.is_plain.ensures ∙ c.if-is_plain.true)
    (sym c.is_ascii_alphabetic.ensures.value ∙ c.if-is_ascii_alphabetic.true)).1

pub returns-then-c-eq32-clause-found : goal.returns-then-c-eq32-clause-found
returns-then-c-eq32-clause-found c =
    sym (ap (found_before c.args.self.now) c.if-c-eq32.true
    ∙ (plain-space c.args.self.now (sym c.is_plain.ensures ∙ c.if-is_plain.true)).0)

pub returns-then-c-eq32-clause-behind : goal.returns-then-c-eq32-clause-behind
returns-then-c-eq32-clause-behind c =
    c.spaced-then-c-eq32.ensures
    ∙ sym (ap (after_code c.args.self.now) c.if-c-eq32.true
    ∙ (plain-space c.args.self.now (sym c.is_plain.ensures ∙ c.if-is_plain.true)).1)
