use Rattle.std.proofs.Common.{◌≡◌, take, true}
use Rattle.std.specs.List.{filter_map, list_all}
use Rattle.miette_read.specs.rules.RustcReport.{span_edit, is_edit_found}
use Rattle.miette_read.specs.views.Values.{values_behind}
use Rattle.miette_read.proofs.rustc_suggestions.spans_edits.Given as goal

-- those that are passed are found
abbrev pub invariant-loop-span : goal.invariant-loop-span
invariant-loop-span g l = record {
  all : list_all (is_edit_found (g.F.Files.found l.files)) (values_behind (take l.span-index l.spans)) ≡ true;
  edits : l.edits.items ≡ filter_map (span_edit (g.F.Files.found l.files)) (values_behind (take l.span-index l.spans));
}
