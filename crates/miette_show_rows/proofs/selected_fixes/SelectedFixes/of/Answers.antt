use Rattle.std.proofs.Common.{List, subst, sym}
use Rattle.miette_show_rows.specs.rules.Packages.{broken_packages, selected_fixes}
use Rattle.miette_show_rows.specs.rules.ApplicableFixes.{RowFixes}
use Rattle.miette_show_rows.specs.views.FixSelection.{HasNames}
use Rattle.miette_show_rows.specs.views.Holding.{HoldsAll}
use Rattle.miette_show_rows.specs.declared.fixes_by_file.FixesByFile.{FixesByFile}
use Rattle.miette_show_rows.proofs.Rows.{all_fixes, left_is}
use Rattle.miette_show_rows.proofs.selected_fixes.SelectedFixes.of.Goals as goal

pub returns-clause-fixes : goal.returns-clause-fixes
returns-clause-fixes c =
    let rows : List RowFixes = c.args.rows.items in
    let held : HasNames c.in_ok-packages.packages (broken_packages rows) =
    subst (λ (rs : List RowFixes). HasNames c.in_ok-packages.packages (broken_packages rs)) c.as_slice.ensures.value
    c.in_ok-packages.ensures
    in
    subst (λ (g : FixesByFile). HoldsAll g (selected_fixes c.args.broken rows)) (sym c.finish.ensures.fixes)
    (all_fixes c.args.broken c.new-counting.result c.add_all.new.self rows
    (c.in_ok-add_all.ensures (broken_packages rows) held) c.new-counting.ensures.fixes)

pub returns-clause-left : goal.returns-clause-left
returns-clause-left c =
    let rows : List RowFixes = c.args.rows.items in
    let held : HasNames c.in_ok-packages.packages (broken_packages rows) =
    subst (λ (rs : List RowFixes). HasNames c.in_ok-packages.packages (broken_packages rs)) c.as_slice.ensures.value
    c.in_ok-packages.ensures
    in
    left_is c.args.broken c.new-counting.result c.add_all.new.self rows
    (c.in_ok-add_all.ensures (broken_packages rows) held) c.new-counting.ensures.packages
    c.new-counting.ensures.files c.finish.result c.finish.ensures.packages c.finish.ensures.files
