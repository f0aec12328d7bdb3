use Rattle.miette_style.specs.views.Printouts.{◌⊕◌}
use Rattle.std.proofs.Common.{◌≡◌, true, drop}
use Rattle.std.specs.List.{list_all}
use Rattle.miette_columns.specs.views.Printable.{is_printable}
use Rattle.miette_style.specs.rules.Themes.{theme_of}
use Rattle.miette_snippet_rules.specs.rules.CutLines.{dots}
use Rattle.miette_snippet_rules.specs.steps.PlainCut.{plain_told}
use Rattle.miette_snippet_rules.proofs.plain_cut.push_plain_cut.Given as goal

abbrev pub invariant-loop-part : goal.invariant-loop-part
invariant-loop-part g l = record {
  printable : list_all is_printable l.rest ≡ true;
  told : l.page ⊕ plain_told (dots (theme_of l.theme)) (drop l.part-index l.cut) l.rest
      ≡ l.fn.page ⊕ plain_told (dots (theme_of l.theme)) l.cut l.fn.text;
}
