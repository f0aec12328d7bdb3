use Rattle.std.proofs.Common.{IsAscii, ◌∙◌, rules, sym}
use Rattle.std.proofs.lemmas.Str.{chars-IsAscii, chars_from_encodes}
use Rattle.std.proofs.lemmas.Result.{IfOk-weaker}
use Rattle.miette_runs.proofs.runs.reading.codes_of.Goals as goal

pub returns-then-is_ascii : goal.returns-then-is_ascii
returns-then-is_ascii c =
    let ascii : IsAscii c.args.text.now = rw c.if-is_ascii.true at c.is_ascii.ensures.cases in
    IfOk-weaker c.byte_codes.result _ _ (λ _ h.
    h ∙ c.as_bytes.ensures.value ∙ sym (chars-IsAscii c.args.text.now ascii)) c.byte_codes.ensures

pub returns : goal.returns
returns c = search (rules, chars_from_encodes)
