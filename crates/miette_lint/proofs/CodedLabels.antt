-- The labels of findings with codes are the findings.
use Rattle.std.proofs.Common.{◌≡◌, ℕ, Bool, true, false, cond, List, [], ◌∷◌, ◌++◌, map, Option, Some, None, refl, ap₂}
use Rattle.std.proofs.Common.{◌∙◌}
use Rattle.std.proofs.lemmas.List.{map-append}
use Rattle.std.specs.List.{flat_map}
use Rattle.std.specs.Prelude.{slice_range}
use Rattle.std.specs.Option.{option_map_or}
use Rattle.miette_columns.specs.rules.Cells.{Cell}
use Rattle.miette_fixes.specs.rules.Edits.{FixModel}
use Rattle.miette_protocol.specs.views.Meaning.{Label}
use Rattle.miette_lines.specs.rules.Lines.{Line, lines_of}
use Rattle.miette_lint.specs.rules.FindingWithFixes.{FindingWithFixes, coded, coded_ending, coded_findings}
use Rattle.miette_lint.specs.rules.FindingWithFixes.{coded_overlong, coded_tab}
use Rattle.miette_lint.specs.rules.FindingWithFixes.{coded_trailing, line_coded, text_coded}
use Rattle.miette_lint.specs.rules.Findings.{lint_cells_of, findings_of, line_findings, text_findings}
use Rattle.miette_lint.specs.rules.Fixes.{ending_of}

abbrev labels_in : List FindingWithFixes → List Label
labels_in list = map (λ (it : FindingWithFixes). it.label) list

unless : (b : Bool) (label : Label) (code : List ℕ) (fixes : List FixModel)
    → labels_in (coded code fixes (cond b [] (label ∷ []))) ≡ cond b [] (label ∷ [])
unless true label code fixes = refl
unless false label code fixes = refl

of_some : {X : Type 0} (f : X → Label) (o : Option X) (code : List ℕ) (fixes : List FixModel)
    → labels_in (coded code fixes (option_map_or (λ x. f x ∷ []) o [])) ≡ option_map_or (λ x. f x ∷ []) o []
of_some f None code fixes = refl
of_some f (Some x) code fixes = refl

unless_some : {X : Type 0} (b : Bool) (f : X → Label) (o : Option X) (code : List ℕ) (fixes : List FixModel)
    → labels_in (coded code fixes (cond b [] (option_map_or (λ x. f x ∷ []) o [])))
    ≡ cond b [] (option_map_or (λ x. f x ∷ []) o [])
unless_some true f o code fixes = refl
unless_some false f o code fixes = of_some f o code fixes

joined : (a b c d : List FindingWithFixes) (p q r s : List Label) → labels_in a ≡ p → labels_in b ≡ q → labels_in c ≡ r
    → labels_in d ≡ s → labels_in (a ++ (b ++ (c ++ d))) ≡ p ++ (q ++ (r ++ s))
joined a b c d p q r s e f g h =
    map-append (λ (it : FindingWithFixes). it.label) a (b ++ (c ++ d))
    ∙ ap₂ (λ x y. x ++ y) e (map-append (λ (it : FindingWithFixes). it.label) b (c ++ d)
    ∙ ap₂ (λ x y. x ++ y) f (map-append (λ (it : FindingWithFixes). it.label) c d ∙ ap₂ (λ x y. x ++ y) g h))

text_labels : (width : ℕ) (ending : List ℕ) (l : Line) (text : List ℕ) (cells : List Cell)
    → labels_in (text_coded width ending l text cells) ≡ text_findings width l text cells
text_labels width ending l text cells =
    joined (coded_trailing l.text_end text) (coded_tab l.start text) (coded_overlong width l.text_end cells)
    (coded_ending ending l cells) _ _ _ _ (unless _ _ _ _) (of_some _ _ _ _) (of_some _ _ _ _)
    (unless_some _ _ _ _ _)

all_labels : (f : Line → List FindingWithFixes) (g : Line → List Label) → ((l : Line) → labels_in (f l) ≡ g l)
    → (ls : List Line)
    → labels_in (flat_map f ls) ≡ flat_map g ls
all_labels f g e [] = refl
all_labels f g e (l ∷ ls) =
    map-append (λ (it : FindingWithFixes). it.label) (f l) (flat_map f ls)
    ∙ ap₂ (λ x y. x ++ y) (e l) (all_labels f g e ls)

pub coded_labels : (source : List ℕ) (width : ℕ) → labels_in (coded_findings source width) ≡ findings_of source width
coded_labels source width =
    all_labels (line_coded source width (ending_of source)) (line_findings source width)
    (λ l. text_labels width (ending_of source) l (slice_range source l.start l.text_end)
    (lint_cells_of l.start (slice_range source l.start l.text_end))) (lines_of source)
