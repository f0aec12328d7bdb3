use Rattle.json.specs.Value.{value_view}
use Rattle.miette_description.proofs.ParsedValueLaws.{found_seen}
use Rattle.miette_description.proofs.json_values.found_at.Goals as goal

pub returns : goal.returns
returns c = found_seen c.get.result c.args.key.now (value_view c.args.value.now) c.get.ensures
