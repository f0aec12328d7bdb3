use Rattle.miette_tree.proofs.Readings.{told_reads}
use Rattle.miette_json.proofs.laws.json_file_names_are_read_where_sources_are.Goals as goal

pub returns : goal.returns
returns c = told_reads
