use Rattle.miette_json.proofs.JsonSpelled.{spelling_tokens_lem}
use Rattle.miette_json.proofs.JsonUtf8.{spelling_utf8_lem}
use Rattle.miette_json.proofs.laws.json_spelling_denotes_its_value.Goals as goal

pub returns-clause-tokens : goal.returns-clause-tokens
returns-clause-tokens c = spelling_tokens_lem

pub returns-clause-value : goal.returns-clause-value
returns-clause-value c v texts = (spelling_utf8_lem v texts, spelling_tokens_lem v)
