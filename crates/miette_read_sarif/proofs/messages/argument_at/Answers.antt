use Rattle.std.proofs.Common.{◌≡◌, take, sym, subst, rules}
use Rattle.std.specs.Str.Parse.{AllDigits}
use Rattle.miette_read_sarif.specs.rules.Messages.{digit_count}
use Rattle.miette_read_sarif.proofs.WalkSteps.{digits_all}
use Rattle.miette_read_sarif.proofs.messages.argument_at.Goals as goal

pub numbered-requires-clause-digits : goal.numbered-requires-clause-digits
numbered-requires-clause-digits c =
    let text = c.args.text.now in
    let is : c.range.result.now ≡ take (digit_count text) text = search rules in
    subst (AllDigits 10) (sym is) (digits_all text)
