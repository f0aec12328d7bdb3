-- The model of `RunContext`.
use Rattle.std.specs.Prelude.{ℕ, List, Option, option_map}
use Rattle.serde_json.specs.View.{view}
use Rattle.miette_protocol.specs.rules.Reading.{Source}
use Rattle.miette_read.specs.views.Values.{values_behind, texts}
use Rattle.miette_read_sarif.specs.rules.Results as results
use Rattle.miette_read_sarif.specs.declared.context.RunContext.{RunContext}
use Rattle.miette_read_sarif.specs.views.Seen.{value_lists_behind}

abbrev pub run_context : {F : Type 0} {g : _} → (F → List ℕ → Option Source) → RunContext F g → results.RunContext
run_context found it = record {
  files = found it.files.now;
  encoding = it.encoding;
  newlines = texts it.lists.now.ends.newlines.items;
  rules = values_behind it.lists.now.rules.items;
  extensions = value_lists_behind it.lists.now.extensions.items;
  artifacts = values_behind it.lists.now.artifacts.items;
  bases = option_map (λ v. view v.now) it.bases;
  strings = option_map (λ v. view v.now) it.strings;
}
