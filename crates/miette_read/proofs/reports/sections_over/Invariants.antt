use Rattle.std.proofs.Common.{◌≡◌, take, map, vec_len}
use Rattle.miette_tree.specs.views.Attachments.{section_of}
use Rattle.miette_read.specs.rules.Reports.{sections_from}
use Rattle.miette_read.proofs.reports.sections_over.Given as goal

-- as many as files are passed, with their labels
abbrev pub invariant-loop-file : goal.invariant-loop-file
invariant-loop-file l = record {
  count : vec_len l.list ≡ l.file-index;
  made : map (section_of (λ it. it)) l.list.items ≡ sections_from l.marks 1 (take l.file-index l.files);
}
