use Rattle.miette_json.proofs.WrittenParts.{value_written}
use Rattle.miette_json.proofs.laws.written_parts_are_json_text.Goals as goal

pub returns : goal.returns
returns c = value_written
