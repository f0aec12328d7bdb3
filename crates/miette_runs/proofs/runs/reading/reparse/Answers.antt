use Rattle.std.proofs.Common.{◌∙◌, ap, sym}
use Rattle.std.proofs.lemmas.Str.{chars_from_encodes}
use Rattle.std.proofs.lemmas.Result.{IfOk-weaker}
use Rattle.miette_runs.specs.rules.Sequences.{spell, tokens}
use Rattle.miette_runs.proofs.runs.reading.reparse.Goals as goal

pub returns : goal.returns
returns c =
    IfOk-weaker c.parse_text.result _ _ (λ _ h. h
    ∙ ap tokens (sym (chars_from_encodes (spell c.args.runs.now) c.as_str.result.now c.as_str.utf8
    (sym (c.as_str.ensures.value ∙ c.in_ok-text.ensures))))) c.parse_text.ensures.tokens
