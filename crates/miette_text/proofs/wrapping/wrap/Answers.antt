use Rattle.std.proofs.Common.{◌∙◌, ◌++◌, ap, sym}
use Rattle.std.proofs.lemmas.Result.{on_ok_weaker}
use Rattle.std.proofs.lemmas.Str.{chars_from_encodes}
use Rattle.miette_runs.specs.rules.Sequences.{spell}
use Rattle.miette_text.specs.rules.Wrapping.{wrapped_text}
use Rattle.miette_text.specs.views.Plans.{printed_plan}
use Rattle.miette_text.proofs.wrapping.wrap.Goals as goal

pub returns : goal.returns
returns c =
    let printed = c.as_str.result.now in
    on_ok_weaker c.wrap_text.result (λ h. h
    ∙ ap (λ cs. c.args.out.now ++ wrapped_text (printed_plan c.args.plan) cs)
    (sym (chars_from_encodes (spell c.args.text.now) printed c.as_str.utf8
    (sym (c.as_str.ensures.value ∙ c.in_ok-text.ensures))))) c.wrap_text.ensures
