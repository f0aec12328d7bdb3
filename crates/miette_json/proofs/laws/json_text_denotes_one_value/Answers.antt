use Rattle.miette_json.proofs.JsonUnique.{one_value_lem}
use Rattle.miette_json.proofs.laws.json_text_denotes_one_value.Goals as goal

pub returns : goal.returns
returns c bytes v w f g = one_value_lem bytes v w f.1 g.1
