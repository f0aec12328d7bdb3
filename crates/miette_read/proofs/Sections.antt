-- Labels over further files, list by list.
use Rattle.std.proofs.Common.{◌≡◌, ℕ, ◌+◌, ◌<◌, List, [], ◌∷◌, ◌++◌, length, get_or, take, sym, ap, ◌∙◌}
use Rattle.std.proofs.Common.{arith, ap₂, map}
use Rattle.std.proofs.lemmas.List.{map-append}
use Rattle.std.proofs.lemmas.Grind.{common_steps}
use Rattle.miette_protocol.specs.rules.Reading.{Source}
use Rattle.miette_tree.specs.rules.Diagnosis.{Section}
use Rattle.miette_read.proofs.Steps.{next_taken}
use Rattle.miette_read.specs.rules.Reports.{labels_in, sections_from}
use Rattle.miette_read.specs.rules.AnnotationLabels.{FileLabel}

abbrev pub section : List FileLabel → ℕ → Source → Section
section marks n s = record { source = s; labels = labels_in marks n }

sections_push : (marks : List FileLabel) (k n : ℕ) (a : List Source) (s : Source) → n ≡ k + length a
    → sections_from marks k (a ++ s ∷ []) ≡ sections_from marks k a ++ section marks n s ∷ []
sections_push marks k n [] s e =
    let same : k ≡ n = omega (arith, e) in ap (λ (m : ℕ). section marks m s ∷ []) same
sections_push marks k n (x ∷ a) s e =
    let same : n ≡ (k + 1) + length a = omega (arith, e) in
    ap (λ l. section marks k x ∷ l) (sections_push marks (k + 1) n a s same)

length_taken : (ss : List Source) (i : ℕ) → i < length ss → length (take i ss) ≡ i
length_taken ss i h = grind (arith, common_steps)

pub next_section : (marks : List FileLabel) (ss : List Source) (i : ℕ) (s : Source) → i < length ss → s ≡ get_or ss i s
    → sections_from marks 1 (take (i + 1) ss) ≡ sections_from marks 1 (take i ss) ++ section marks (i + 1) s ∷ []
next_section marks ss i s h is =
    let len = length_taken ss i h in
    let number : i + 1 ≡ 1 + length (take i ss) = omega (arith, len) in
    ap (sections_from marks 1) (next_taken ss i s h is) ∙ sections_push marks 1 (i + 1) (take i ss) s number

pub more_sections : {S : Type 0} (value : S → Section) (old new : List S) (made : S) (marks : List FileLabel)
    (ss : List Source) (i n : ℕ) (s : Source)
    → new ≡ old ++ made ∷ [] → n ≡ i → value made ≡ section marks (n + 1) s → i < length ss → s ≡ get_or ss i s
    → map value old ≡ sections_from marks 1 (take i ss) → map value new ≡ sections_from marks 1 (take (i + 1) ss)
more_sections value old new made marks ss i n s pushed same e h is inv =
    ap (map value) pushed ∙ map-append value old (made ∷ [])
    ∙ ap₂ (λ a b. a ++ b ∷ []) inv (e ∙ ap (λ (m : ℕ). section marks (m + 1) s) same)
    ∙ sym (next_section marks ss i s h is)
