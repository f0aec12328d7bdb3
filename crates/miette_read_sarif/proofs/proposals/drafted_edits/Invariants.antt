use Rattle.std.proofs.Common.{◌≡◌, take, true}
use Rattle.std.specs.List.{filter_map, list_all}
use Rattle.miette_read_sarif.specs.rules.Proposals.{drafted_edit, is_found}
use Rattle.miette_read_sarif.proofs.proposals.drafted_edits.Given as goal

-- those that are passed are found
abbrev pub invariant-loop-draft : goal.invariant-loop-draft
invariant-loop-draft g l = record {
  all : list_all (is_found (g.F.Files.found l.files)) (take l.draft-index l.drafted) ≡ true;
  edits : l.edits.items ≡ filter_map (drafted_edit (g.F.Files.found l.files)) (take l.draft-index l.drafted);
}
