use Rattle.std.proofs.Common.{◌≡◌, ◌++◌, false, length, map, string_bytes, drop}
use Rattle.std.specs.Option.{option_copied}
use Rattle.std.specs.List.{list_any}
use Rattle.miette_fixes.specs.rules.Edits.{ends_after}
use Rattle.miette_fixes.specs.views.Ordered.{edits_of}
use Rattle.miette_brief.specs.rules.Fixes.{fix_it_row}
use Rattle.miette_brief.specs.rules.Rows.{brief_rows_text}
use Rattle.miette_brief.proofs.fixes.push_edits.Given as goal

abbrev pub invariant-loop-edit : goal.invariant-loop-edit
invariant-loop-edit l = record {
  rows : string_bytes l.out
      ++ brief_rows_text (map (fix_it_row (option_copied l.text.name) l.text.lines.now)
      (edits_of (drop l.edit-index l.edits)))
      ≡ string_bytes l.fn.out
      ++ brief_rows_text (map (fix_it_row (option_copied l.text.name) l.text.lines.now) (edits_of l.edits));
  inside : list_any (ends_after (length l.text.lines.now)) (edits_of (drop l.edit-index l.edits)) ≡ false;
}
