-- Steps of finding what is to be found, each with its code.
use Rattle.std.proofs.Common.{◌≡◌, ℕ, List, [], ◌∷◌, ◌++◌, map, Result, OnOk, ap, ap₂, sym, subst, ◌∙◌}
use Rattle.std.proofs.lemmas.List.{map-append}
use Rattle.miette_fixes.specs.rules.Edits.{FixModel}
use Rattle.miette_protocol.specs.views.Meaning.{Label}
use Rattle.miette_lint.specs.declared.coded.CodedFinding.{CodedFinding}
use Rattle.miette_lint.specs.rules.FindingWithFixes.{FindingWithFixes, coded}
use Rattle.miette_lint.specs.views.Found.{coded_of}

pub coded_put : (found : CodedFinding) (code : List ℕ) (fixes : List FixModel) (label : Label)
    (labels rest : List Label) (old new : List CodedFinding)
    → coded_of found ≡ record { code = code; label = label; fixes = fixes } → labels ≡ label ∷ rest
    → new ≡ old ++ found ∷ [] → map coded_of new ≡ map coded_of old ++ coded code fixes labels
coded_put found code fixes label labels rest old new is some put =
    ap (map coded_of) put ∙ map-append coded_of old (found ∷ [])
    ∙ ap (λ (c : FindingWithFixes). map coded_of old ++ c ∷ []) is ∙ ap (λ ls. map coded_of old ++ coded code fixes ls)
    (sym some)

-- from labels and proposals that were put into empty lists
pub coded_from : {E : Type 0} (r : Result (Unit {0}) E) (code : List ℕ) (no_labels labels given : List Label)
    (no_fixes fixes proposed : List FixModel) (old new : List FindingWithFixes) → no_labels ≡ [] → labels ≡ no_labels
    ++ given
    → no_fixes ≡ [] → fixes ≡ no_fixes ++ proposed → OnOk r (new ≡ old ++ coded code fixes labels)
    → OnOk r (new ≡ old ++ coded code proposed given)
coded_from r code no_labels labels given no_fixes fixes proposed old new no_label l no_fix f h =
    subst (λ list. OnOk r (new ≡ old ++ list)) (ap₂ (λ (p : List FixModel) (g : List Label). coded code p g)
    (f ∙ ap (λ x. x ++ proposed) no_fix) (l ∙ ap (λ x. x ++ given) no_label)) h
