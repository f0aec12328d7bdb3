-- The text of the outermost report, from the texts of its parts; of a nested one and of a sibling.
use Rattle.std.proofs.Common.{◌≡◌, ℕ, Bool, true, false, List, ◌++◌, refl, if◌then◌else◌}
use Rattle.miette_runs.specs.rules.Runs.{print}
use Rattle.miette_tree.specs.rules.Diagnosis.{Diagnosis}
use Rattle.miette_graphical_rules.specs.rules.GraphicalSettings.{GraphicalSettings}
use Rattle.miette_graphical_rules.specs.rules.DiagnosticText.{header, footer_text}
use Rattle.miette_graphical_rules.specs.rules.Text.{body_over}

-- header, body, footer
abbrev pub report_over : GraphicalSettings → Diagnosis → List ℕ → List ℕ → List ℕ → List ℕ
report_over s m drawn causes related = print (header s m) ++ body_over s m drawn causes related ++ footer_text s

pub if_same : (nested : Bool) (x u y v : List ℕ) → (nested ≡ true → x ≡ u) → (nested ≡ false → y ≡ v)
    → (if nested then x else y) ≡ (if nested then u else v)
if_same true x u y v p q = p refl
if_same false x u y v p q = q refl
