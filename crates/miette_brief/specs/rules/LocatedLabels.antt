-- The labels of a diagnostic over all of its sources, and the primary one among them.
use Rattle.std.specs.Prelude.{ℕ, ◌+◌, List, [], ◌∷◌, ◌++◌, map, take, drop, position, Bool, ◌&&◌, Option, Some, None}
use Rattle.std.specs.Prelude.{is_some, true, false}
use Rattle.miette_protocol.specs.views.Meaning.{Label}
use Rattle.miette_protocol.specs.rules.Reading.{Source}
use Rattle.miette_tree.specs.rules.Diagnosis.{Diagnosis, Section}
use Rattle.miette_tree.specs.rules.DiagnosticParts.{given_labels}
use Rattle.miette_labels.specs.rules.Groups.{in_order}

-- a label and its source, if it has one
pub record LocatedLabel : Type 0 where
  pub source : Option Source
  pub label : Label

abbrev pub located_label : Option Source → Label → LocatedLabel
located_label source label = record { source = source; label = label }

-- the labels of further sources, in order; those of each source by offset
abbrev pub further_labels : List Section → List LocatedLabel
further_labels [] = []
further_labels (section ∷ sections) =
    map (located_label (Some section.source)) (in_order section.labels) ++ further_labels sections

-- the labels of a diagnostic: those of its first source by offset, then those of further ones
abbrev pub marks : Option Source → Diagnosis → List LocatedLabel
marks source m = map (located_label source) (in_order (given_labels m.labels)) ++ further_labels m.snippets

-- ---- the primary one

abbrev pub is_placed : LocatedLabel → Bool
is_placed it = is_some it.source

abbrev pub is_marked : LocatedLabel → Bool
is_marked it = is_some it.source && it.label.primary

-- whether a label is wanted: it is marked as primary, or any will do
abbrev pub is_wanted : Bool → LocatedLabel → Bool
is_wanted true it = is_marked it
is_wanted false it = is_placed it

abbrev pub else_at : Option ℕ → Option ℕ → Option ℕ
else_at None other = other
else_at (Some at) other = Some at

-- the index of the primary label: the first that has a source and is marked as primary, else the first that has a
-- source
abbrev pub primary_at : List LocatedLabel → Option ℕ
primary_at its = else_at (position is_marked its) (position is_placed its)

-- this label first, then all others in their order
abbrev pub with_first : Option ℕ → List LocatedLabel → List LocatedLabel
with_first None its = its
with_first (Some at) its = take 1 (drop at its) ++ (take at its ++ drop (at + 1) its)

-- the labels with the primary one first
abbrev pub primary_first : List LocatedLabel → List LocatedLabel
primary_first its = with_first (primary_at its) its
