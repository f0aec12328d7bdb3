-- Columns of offsets.
use Rattle.std.proofs.Common.{ℕ, ◌+◌, ◌<◌, ◌≤◌, ◌≡◌, List, [], ◌∷◌, ◌++◌, map, length, drop, get_or, append_assoc}
use Rattle.std.proofs.Common.{append-nil, sym, ap, ◌∙◌}
use Rattle.std.proofs.lemmas.List.{at_drop_more, at_drop_all, map-append}
use Rattle.miette_labels.specs.declared.placed.PlacedLabel.{PlacedLabel}
use Rattle.miette_snippet_rules.specs.declared.underlines.Underline.{Underline as MadeUnderline}
use Rattle.miette_labels.specs.rules.Labels.{DrawnLabel}
use Rattle.miette_snippet_rules.specs.rules.Underlines.{MeasuredText, Underline, underline_from, underline_until}
use Rattle.miette_snippet_rules.specs.rules.Underlines.{underline_pointer, underlines_from}
use Rattle.miette_labels.specs.views.ProgramLabels.{no_label}
use Rattle.miette_labels.specs.views.ProgramLabels.{drawn_of}
use Rattle.miette_snippet_rules.specs.views.MadeUnderlines.{underline_of}

-- one more mark
pub mark_more : (made new : List MadeUnderline) (mark : MadeUnderline) (text : MeasuredText) (reached : ℕ)
    (placed : List PlacedLabel) (i : ℕ) → i < length placed → new ≡ made ++ mark ∷ [] →
    mark.from ≡ underline_from text reached (drawn_of (get_or placed i no_label)) → mark.until
    ≡ underline_until text reached (drawn_of (get_or placed i no_label)) → mark.pointer
    ≡ underline_pointer text reached (drawn_of (get_or placed i no_label)) → mark.label ≡ get_or placed i no_label →
    (whole : List Underline) → map underline_of made ++ underlines_from text reached (map drawn_of (drop i placed))
    ≡ whole
    → map underline_of new ++ underlines_from text mark.until (map drawn_of (drop (i + 1) placed)) ≡ whole
mark_more made new mark text reached placed i lt n f u a l whole h =
    let p : PlacedLabel = get_or placed i no_label in
    let rest : List DrawnLabel = map drawn_of (drop (i + 1) placed) in
    ap (λ xs. map underline_of xs ++ underlines_from text mark.until rest) n
    ∙ ap (λ xs. xs ++ underlines_from text mark.until rest) (map-append underline_of made (mark ∷ []))
    ∙ append_assoc (map underline_of made) (underline_of mark ∷ []) (underlines_from text mark.until rest)
    ∙ ap (λ x. map underline_of made ++ record {
      from = x;
      until = mark.until;
      pointer = mark.pointer;
      label =
          drawn_of mark.label;
    } ∷ underlines_from text mark.until rest) f
    ∙ ap (λ x. map underline_of made ++ record {
      from = underline_from text reached (drawn_of p);
      until = x;
      pointer =
          mark.pointer;
      label = drawn_of mark.label;
    } ∷ underlines_from text x rest) u
    ∙ ap (λ x. map underline_of made ++ record {
      from = underline_from text reached (drawn_of p);
      until =
          underline_until text reached (drawn_of p);
      pointer = x;
      label = drawn_of mark.label;
    }
    ∷ underlines_from text (underline_until text reached (drawn_of p)) rest) a
    ∙ ap (λ x. map underline_of made ++ record {
      from = underline_from text reached (drawn_of p);
      until =
          underline_until text reached (drawn_of p);
      pointer = underline_pointer text reached (drawn_of p);
      label = drawn_of x;
    }
    ∷ underlines_from text (underline_until text reached (drawn_of p)) rest) l
    ∙ ap (λ xs. map underline_of made ++ underlines_from text reached xs)
    (sym (at_drop_more (map drawn_of) placed i no_label lt)) ∙ h

pub mark_end : (made : List MadeUnderline) (text : MeasuredText) (reached : ℕ) (placed : List PlacedLabel) (i : ℕ)
    → length placed ≤ i →
    (whole : List Underline) → map underline_of made ++ underlines_from text reached (map drawn_of (drop i placed))
    ≡ whole
    → map underline_of made ≡ whole
mark_end made text reached placed i le whole h =
    sym (append-nil (map underline_of made)) ∙ ap (λ xs. map underline_of made ++ underlines_from text reached xs)
    (sym (at_drop_all (map drawn_of) placed i le)) ∙ h
