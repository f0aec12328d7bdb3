use Rattle.miette_description.proofs.Shape.{report_parts}
use Rattle.miette_description.proofs.laws.a_description_is_read_by_its_keys.Goals as goal

pub returns : goal.returns
returns c = report_parts
