use Rattle.std.proofs.Common.{◌≡◌, take, true}
use Rattle.std.specs.List.{filter_map, list_all}
use Rattle.miette_read.specs.views.Values.{values_behind}
use Rattle.miette_read_shellcheck.specs.rules.Comments.{replacement_edit, is_replacement_found}
use Rattle.miette_read_shellcheck.proofs.replacements.replacements_edits.Given as goal

-- those that are passed are found
abbrev pub invariant-loop-replacement : goal.invariant-loop-replacement
invariant-loop-replacement g l = record {
  all : list_all (is_replacement_found (g.F.Files.found l.files) l.name)
      (values_behind (take l.replacement-index l.replacements)) ≡ true;
  edits : l.edits.items
      ≡ filter_map (replacement_edit (g.F.Files.found l.files) l.name)
      (values_behind (take l.replacement-index l.replacements));
}
