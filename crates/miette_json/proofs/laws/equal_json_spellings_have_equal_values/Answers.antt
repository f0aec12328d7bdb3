use Rattle.std.proofs.Common.{sym, subst}
use Rattle.miette_json.specs.rules.Json.{json_text}
use Rattle.miette_json.specs.rules.Denotes.{HasTokensOf}
use Rattle.miette_json.proofs.JsonUnique.{one_value_lem}
use Rattle.miette_json.proofs.JsonSpelled.{spelling_tokens_lem}
use Rattle.miette_json.proofs.laws.equal_json_spellings_have_equal_values.Goals as goal

pub returns : goal.returns
returns c v w e = one_value_lem (json_text v) v w (spelling_tokens_lem v)
    (subst (λ b. HasTokensOf b w) (sym e) (spelling_tokens_lem w))
