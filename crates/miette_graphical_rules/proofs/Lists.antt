-- Lists of printed diagnostics, whose sources always read, or not.
use Rattle.std.proofs.Common.{◌≡◌, Bool, true, false, ◌&&◌, List, [], ◌∷◌, ◌++◌, refl, sym, ap, ◌∙◌}
use Rattle.std.specs.List.{list_all}
use Rattle.std.proofs.lemmas.Bool.{and_from, and_parts}
use Rattle.std.proofs.Math.Bool.{and-false, and_assoc}
use Rattle.miette_graphical_rules.specs.rules.PrintedDiagnostics.{PrintedDiagnostic, all_read, labels_read, reads_all}
use Rattle.miette_graphical_rules.specs.rules.PrintedDiagnostics.{reads_labels}
use Rattle.miette_graphical_rules.specs.rules.Sources.{reads_for}

read_append : (reads : PrintedDiagnostic → Bool) (ps qs : List PrintedDiagnostic)
    → list_all reads (ps ++ qs) ≡ (list_all reads ps && list_all reads qs)
read_append reads [] qs = refl
read_append reads (p ∷ ps) qs =
    ap (λ b. reads p && b) (read_append reads ps qs)
    ∙ sym (and_assoc (reads p) (list_all reads ps) (list_all reads qs))

pub both_read : (ps qs : List PrintedDiagnostic) → all_read (ps ++ qs) ≡ true → (all_read ps ≡ true)
    × (all_read qs ≡ true)
both_read ps qs h =
    let p = and_parts (all_read ps) (all_read qs) (sym (read_append reads_all ps qs) ∙ h) in (p.0, p.1)

-- where all sources always read, those of labels do
pub labels_of_all : (ps : List PrintedDiagnostic) → all_read ps ≡ true → labels_read ps ≡ true
labels_of_all [] h = refl
labels_of_all (p ∷ ps) h =
    let both = and_parts (reads_all p) (all_read ps) h in
    let own = and_parts (reads_labels p) (reads_for p.source p.meaning.fixes) both.0 in
    and_from (reads_labels p) (labels_read ps) own.0 (labels_of_all ps both.1)

pub first_fails : (ps qs : List PrintedDiagnostic) → labels_read ps ≡ false → labels_read (ps ++ qs) ≡ false
first_fails ps qs h = read_append reads_labels ps qs ∙ ap (λ b. b && labels_read qs) h

pub later_fails : (ps qs : List PrintedDiagnostic) → labels_read qs ≡ false → labels_read (ps ++ qs) ≡ false
later_fails ps qs h =
    read_append reads_labels ps qs ∙ ap (λ b. labels_read ps && b) h ∙ and-false (labels_read ps)
