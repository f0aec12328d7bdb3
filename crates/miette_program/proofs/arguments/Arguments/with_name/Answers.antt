use Rattle.std.proofs.Common.{◌≡◌, Err, rules, subst, sym}
use Rattle.miette_program.specs.declared.option_words.NamedValue.{NamedValue}
use Rattle.miette_program.specs.rules.OptionWords as table
use Rattle.miette_program.specs.steps.ParsedArguments.{AreGiven, IsGiven, parsed_of, with_named}
use Rattle.miette_program.proofs.OptionWordSteps.{same_fault}
use Rattle.miette_program.proofs.arguments.Arguments.with_name.Goals as goal

pub returns-in_err-named : goal.returns-in_err-named
returns-in_err-named c =
    let asked = parsed_of c.args.self in
    let given = table.with_name c.args.word.now c.args.name.now asked in
    let fault = c.in_err-named.field-0.0 in
    let is : c.read_named.result ≡ Err fault = search rules in
    let left : c.from_residual.result ≡ Err fault = search rules in
    subst (AreGiven given) (sym left)
    (same_fault (λ (it : NamedValue). with_named it asked) parsed_of given fault
    (subst (IsGiven (λ (it : NamedValue). with_named it asked) given) is (c.read_named.ensures asked)))
