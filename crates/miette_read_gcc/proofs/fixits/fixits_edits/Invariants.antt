use Rattle.std.proofs.Common.{◌≡◌, take, true}
use Rattle.std.specs.List.{filter_map, list_all}
use Rattle.miette_read.specs.views.Values.{values_behind}
use Rattle.miette_read_gcc.specs.rules.GccReport.{fixit_edit, is_fixit_found}
use Rattle.miette_read_gcc.specs.views.GccContexts.{gcc_context}
use Rattle.miette_read_gcc.proofs.fixits.fixits_edits.Given as goal

-- those that are passed are found
abbrev pub invariant-loop-fixit : goal.invariant-loop-fixit
invariant-loop-fixit g l = record {
  all : list_all (is_fixit_found (gcc_context g.F.Files.found l.context)) (values_behind (take l.fixit-index l.fixits))
      ≡ true;
  edits : l.edits.items
      ≡ filter_map (fixit_edit (gcc_context g.F.Files.found l.context)) (values_behind (take l.fixit-index l.fixits));
}
