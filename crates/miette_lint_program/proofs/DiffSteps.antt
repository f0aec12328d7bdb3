-- Steps of `lint --diff`.
use Rattle.std.proofs.Common.{◌≡◌, ℕ, List, Option, Result, Ok, Err, IfOk, refl, ap, ◌∙◌, string_bytes}
use Rattle.std.specs.Prelude.{String}
use Rattle.std.specs.declared.alloc.Global.{Global}
use Rattle.miette_protocol.specs.views.Meaning.{Label, Meaning}
use Rattle.miette_fixes.specs.rules.Edits.{FixModel}
use Rattle.miette_tree.specs.rules.Tree.{Tree, with_fix}
use Rattle.miette_tree.proofs.Readings.{none_further}
use Rattle.miette_graphical_rules.specs.rules.PrintedDiagnostics.{all_read, diagnostics_of}
use Rattle.miette_lint.specs.rules.Combined.{combined_proposal}
use Rattle.miette_graphical_rules.proofs.AlwaysRead.{printed-reads}
use Rattle.miette_draw.specs.rules.Pictures.{IsReadWhole}
use Rattle.miette_draw.specs.rules.Pictures.{draw_settings, over_input}
use Rattle.miette_lint_program.specs.views.LintReports.{picture, warning}

-- ---- the report

pub tree_made : {R E : Type 0} (tree : R → Tree) (r : Result R E) (made : Tree) (m : Meaning)
    (name input bytes : List ℕ) (found : List Label) (width : ℕ) (fix : FixModel) → made ≡ over_input name m input
    → m ≡ warning found → bytes ≡ input → fix ≡ combined_proposal bytes width
    → IfOk r (λ it. tree it ≡ with_fix fix made)
    → IfOk r (λ it. tree it ≡ with_fix (combined_proposal input width) (over_input name (warning found) input))
tree_made tree (Err e) made m name input bytes found width fix of same read all h = tt
tree_made tree (Ok it) made m name input bytes found width fix of same read all h =
    h ∙ ap (with_fix fix) of ∙ ap (λ v. with_fix fix (over_input name v input)) same
    ∙ ap (λ f. with_fix f (over_input name (warning found) input)) (all ∙ ap (λ bs. combined_proposal bs width) read)

-- it is read whole
pub diff_reads : (limit : Option ℕ) (t : Tree) (name : List ℕ) (m : Meaning) (input : List ℕ) (fix : FixModel)
    → t ≡ with_fix fix (over_input name m input) → IsReadWhole limit t
diff_reads limit t name m input fix same = ap (λ u. all_read (diagnostics_of (draw_settings limit) u)) same
    ∙ printed-reads (draw_settings limit) (with_fix fix (over_input name m input)) (refl, tt, tt, none_further)

-- ---- the text

pub diff_drawn : {E : Type 0} (r : Result (String Global) E) (width : ℕ) (t made : Tree) → t ≡ made
    → IfOk r (λ text. string_bytes text ≡ picture width t) → IfOk r (λ text. string_bytes text ≡ picture width made)
diff_drawn (Err e) width t made same h = tt
diff_drawn (Ok text) width t made same h = h ∙ ap (picture width) same
