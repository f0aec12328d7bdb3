-- Every annotation with a location is shown by a label.
use Rattle.std.specs.Prelude.{◌≡◌, ◌⊎◌, ◌+◌, ◌-◌, ◌≤◌, ℕ, List, [], ◌∷◌, ◌++◌, Option, Some, None, true}
use Rattle.std.specs.List.{AllByRecursion, Any}
use Rattle.miette_protocol.specs.rules.Reading.{Source}
use Rattle.miette_protocol.specs.views.Meaning.{Label}
use Rattle.miette_read.specs.rules.Places.{ByteRange, Annotation}
use Rattle.miette_read.specs.laws.Lists.{label_sections}
use Rattle.miette_tree.specs.rules.Diagnosis.{Section}
use Rattle.miette_tree.specs.rules.Tree.{Tree}

-- ---- rows of a text

-- The text before a line: empty, or ended by a line feed.
abbrev pub EndsRow : List ℕ → Type 0
EndsRow front = (front ≡ []) ⊎ ((text : List ℕ) × (front ≡ text ++ 10 ∷ []))

-- The text after a line: empty, or begun by a line feed.
abbrev pub BeginsRow : List ℕ → Type 0
BeginsRow rest = (rest ≡ []) ⊎ ((text : List ℕ) × (rest ≡ 10 ∷ text))

-- `row` is one or more whole lines of `text`.
abbrev pub IsRowOf : List ℕ → List ℕ → Type 0
IsRowOf row text =
    (front : List ℕ) × (rest : List ℕ) × (text ≡ front ++ (row ++ rest)) × EndsRow front × BeginsRow rest

abbrev pub IsRowIn : List ℕ → Option (List ℕ) → Type 0
IsRowIn row None = ⊥
IsRowIn row (Some text) = IsRowOf row text

-- ---- labels

-- The label covers exactly these bytes and contains each line of the annotation. It is primary if the annotation is a
-- primary one of the message's own spans.
abbrev pub IsLabelOf : ByteRange → Annotation → Label → Type 0
IsLabelOf s t l =
    (l.span.offset ≡ s.start) × (l.span.len ≡ s.end - s.start) × AllByRecursion (λ row. IsRowIn row l.text) t.rows
    × (t.primary ≡ true → t.own ≡ true → l.primary ≡ true)

-- The annotation has no text, and the label contains its bytes.
abbrev pub IsAround : ByteRange → Annotation → Label → Type 0
IsAround s t l = (t.rows ≡ []) × (l.span.offset ≤ s.start) × (s.end ≤ l.span.offset + l.span.len)

abbrev pub IsShownBy : ByteRange → Annotation → Label → Type 0
IsShownBy s t l = IsLabelOf s t l ⊎ IsAround s t l

-- A label list over this source shows the annotation.
abbrev pub IsShownIn : Source → ByteRange → Annotation → Section → Type 0
IsShownIn source s t list = (list.source ≡ source) × Any (IsShownBy s t) list.labels

-- A label list of the report shows the annotation.
abbrev pub IsAnnotationShown : Source × ByteRange → Annotation → Tree → Type 0
IsAnnotationShown found t report = Any (IsShownIn found.0 found.1 t) (label_sections report)
