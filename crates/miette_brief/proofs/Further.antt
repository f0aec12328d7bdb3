-- The notes of labels over further sources, one source after the other.
use Rattle.std.proofs.Common.{ℕ, suc, zero, ◌+◌, ◌≡◌, ◌<◌, ◌≤◌, List, [], ◌∷◌, ◌++◌, length, get_or, map, drop}
use Rattle.std.proofs.Common.{false, ◌&&◌, Option, Some, sym, ap, ap₂, subst, ◌∙◌, append_assoc, append-nil}
use Rattle.std.proofs.Common.{arith}
use Rattle.std.proofs.Math.Bool.{and-false}
use Rattle.std.proofs.lemmas.List.{drop_all}
use Rattle.miette_protocol.specs.rules.Reading.{Source}
use Rattle.miette_protocol.specs.views.Meaning.{Label}
use Rattle.miette_tree.specs.rules.Diagnosis.{Section}
use Rattle.miette_tree.specs.rules.Reads.{accepts, further_pass}
use Rattle.miette_labels.specs.rules.Groups.{in_order}
use Rattle.miette_brief.specs.rules.Rows.{brief_rows_text}
use Rattle.miette_brief.specs.rules.Report.{note_rows, further_notes}
use Rattle.miette_brief.specs.rules.PossibleAnswers.{HasAccepted, FurtherAccepted}
use Rattle.miette_brief.proofs.Choosing.{sections_left, accepts_order}
use Rattle.miette_brief.proofs.Putting.{rows_joined}

module _ {X : Type 0} (value : X → Section) (xs : List X) (i : ℕ) where
  pub notes_told : (d : X) (source : Source) (labels : List Label) (now new goal : List ℕ) → i < length xs
      → d ≡ get_or xs i d → source ≡ (value d).source → labels ≡ (value d).labels
      → new ≡ now ++ brief_rows_text (note_rows (Some source) (in_order labels))
      → now ++ brief_rows_text (further_notes (map value (drop i xs))) ≡ goal
      → new ++ brief_rows_text (further_notes (map value (drop (i + 1) xs))) ≡ goal
  notes_told d source labels now new goal lt is es el e h =
      let here = note_rows (Some (value d).source) (in_order (value d).labels) in
      let later = further_notes (map value (drop (i + 1) xs)) in
      let told : new ≡ now ++ brief_rows_text here =
      e ∙ ap₂ (λ s ls. now ++ brief_rows_text (note_rows (Some s) (in_order ls))) es el in
      ap (λ l. l ++ brief_rows_text later) told ∙ append_assoc now (brief_rows_text here) (brief_rows_text later)
      ∙ ap (λ l. now ++ l) (sym (rows_joined here later))
      ∙ ap (λ ss. now ++ brief_rows_text (further_notes ss)) (sym (sections_left value xs i d lt is)) ∙ h

  pub notes_end : (now goal : List ℕ) → length xs ≤ i
      → now ++ brief_rows_text (further_notes (map value (drop i xs))) ≡ goal → now ≡ goal
  notes_end now goal end h = sym (append-nil now)
      ∙ ap (λ ys. now ++ brief_rows_text (further_notes (map value ys))) (sym (drop_all i xs end)) ∙ h

  pub sections_accepted : (d : X) (source : Source) (labels : List Label) (goal : List Section) → i < length xs
      → d ≡ get_or xs i d → source ≡ (value d).source → labels ≡ (value d).labels
      → HasAccepted (Some source) (in_order labels)
      → (FurtherAccepted (map value (drop i xs)) → FurtherAccepted goal)
      → FurtherAccepted (map value (drop (i + 1) xs)) → FurtherAccepted goal
  sections_accepted d source labels goal lt is es el here f later =
      let read : HasAccepted (Some (value d).source) (in_order (value d).labels) =
      subst (λ (ls : List Label). HasAccepted (Some (value d).source) (in_order ls)) el
      (subst (λ (s : Source). HasAccepted (Some s) (in_order labels)) es here) in
      f (subst (λ (ss : List Section). FurtherAccepted ss) (sym (sections_left value xs i d lt is)) (read, later))

  pub accepted_all : (goal : List Section) → length xs ≤ i
      → (FurtherAccepted (map value (drop i xs)) → FurtherAccepted goal) → FurtherAccepted goal
  accepted_all goal end f = f (subst (λ ys. FurtherAccepted (map value ys)) (sym (drop_all i xs end)) tt)

pub section_refused : {X : Type 0} (value : X → Section) (xs : List X) (i : ℕ) (d : X) (source : Source)
    (labels : List Label) → i < length xs → d ≡ get_or xs i d → source ≡ (value d).source
    → labels ≡ (value d).labels → accepts (Some source) (in_order labels) ≡ false
    → further_pass accepts (map value xs) ≡ false
section_refused value [] i d source labels lt is es el e = absurd (omega arith)
section_refused value (x ∷ xs) zero d source labels lt is es el e =
    ap (λ b. b && further_pass accepts (map value xs))
    (sym (ap₂ (λ s ls. accepts (Some s) ls) (es ∙ ap (λ y. (value y).source) is) (el ∙ ap (λ y. (value y).labels) is))
    ∙ sym (accepts_order (Some source) labels) ∙ e)
section_refused value (x ∷ xs) (suc i) d source labels lt is es el e =
    ap (λ b. accepts (Some (value x).source) (value x).labels && b)
    (section_refused value xs i d source labels (omega arith) is es el e)
    ∙ and-false (accepts (Some (value x).source) (value x).labels)

-- labels over the first source are refused, or some over further ones
pub own_refused : (source : Option Source) (labels : List Label) (further : List Section)
    → accepts source labels ≡ false → (accepts source labels && further_pass accepts further) ≡ false
own_refused source labels further e = ap (λ b. b && further_pass accepts further) e

pub further_refused : (source : Option Source) (labels : List Label) (further : List Section)
    → further_pass accepts further ≡ false → (accepts source labels && further_pass accepts further) ≡ false
further_refused source labels further e =
    ap (λ b. accepts source labels && b) e ∙ and-false (accepts source labels)
