use Rattle.std.proofs.Common.{◌≡◌, ◌++◌, OnOk, chars, encode_utf8_all, string_bytes}
use Rattle.std.proofs.lemmas.Grind.{common_steps}
use Rattle.std.proofs.Common.{arith}
use Rattle.miette_text.specs.views.Plans.{options_plan}
use Rattle.miette_text.specs.rules.Wrapping.{wrapped_text}
use Rattle.miette_text.proofs.AppendedColours.{appends_on_ok}
use Rattle.miette_text.proofs.wrap.fill.Goals as goal

pub returns-clause-colours : goal.returns-clause-colours
returns-clause-colours c =
    let ok : OnOk c.push_str.result (string_bytes c.push_str.new.self ≡ string_bytes c.args.out.now
    ++ encode_utf8_all (wrapped_text (options_plan c.args.options.now) (chars c.args.text.now))) =
    grind (arith, common_steps) in
    appends_on_ok c.push_str.result (options_plan c.args.options.now) (chars c.args.text.now)
    (string_bytes c.args.out.now) (string_bytes c.push_str.new.self) ok
