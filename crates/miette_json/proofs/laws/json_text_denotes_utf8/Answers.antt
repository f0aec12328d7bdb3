use Rattle.std.proofs.Common.{[]}
use Rattle.miette_json.specs.rules.Denotes.{tokens_then}
use Rattle.miette_json.proofs.JsonUtf8.{tokens_utf8}
use Rattle.miette_json.proofs.laws.json_text_denotes_utf8.Goals as goal

pub returns : goal.returns
returns c bytes v d = tokens_utf8 (tokens_then v []) bytes d.0 d.1
