-- Labels of a report as SARIF locations: the primary one, and the others.
use Rattle.std.specs.Prelude.{ℕ, ◌+◌, List, [], ◌∷◌, ◌++◌, slice_range, Bool, true, ◌&&◌, ◌==◌, not, if◌then◌else◌}
use Rattle.std.specs.Prelude.{Option, Some, None, unwrap_or, is_none, option_map}
use Rattle.std.specs.Str.{is_utf8}
use Rattle.miette_lines.specs.rules.Lists.{is_nil}
use Rattle.miette_json.specs.rules.JsonReport.{first_fault, later_faults}
use Rattle.miette_labels.specs.rules.Groups.{in_order}
use Rattle.miette_positions.specs.declared.position.PositionEncoding.TheVariants.{Utf16}
use Rattle.miette_positions.specs.declared.position.Stretch.{Stretch}
use Rattle.miette_positions.specs.rules.Regions.{stretch_of}
use Rattle.miette_protocol.specs.rules.Reading.{Span}
use Rattle.miette_protocol.specs.views.Meaning.{Label}
use Rattle.miette_tree.specs.rules.Diagnosis.{Diagnosis, Section}
use Rattle.miette_tree.specs.rules.DiagnosticParts.{given_labels}
use Rattle.miette_sarif.specs.rules.Findings.{SarifRegion, SarifLocation, PhysicalLocation, SnapshotValue}
use Rattle.miette_sarif.specs.rules.SourceSnapshot.{seen}

-- ---- one label

abbrev pub text_of : List ℕ → Stretch → List ℕ
text_of bytes s = slice_range bytes s.start.offset s.end.offset

-- whether a region's text is shown: it is on one line, not empty, and UTF-8
abbrev pub shows_snippet : List ℕ → Stretch → Bool
shows_snippet bytes s =
    (s.start.position.line == s.end.position.line) && (not (is_nil (text_of bytes s)) && is_utf8 (text_of bytes s))

abbrev pub area_at : List ℕ → Stretch → SarifRegion
area_at bytes s = record {
  stretch = s;
  snippet = if shows_snippet bytes s then Some (text_of bytes s) else None;
}

-- the region of a span in bounds
abbrev pub area_in : List ℕ → Span → Option SarifRegion
area_in bytes span = option_map (area_at bytes) (stretch_of Utf16 bytes span)

abbrev pub area_over : Option (List ℕ) → Span → Option SarifRegion
area_over None span = None
area_over (Some bytes) span = area_in bytes span

abbrev pub place_in : SnapshotValue → Span → PhysicalLocation
place_in it span = record { source = it.source; area = area_over it.text span }

abbrev pub mark_over : Option SnapshotValue → Label → SarifLocation
mark_over over l = record { place = option_map (λ it. place_in it l.span) over; text = unwrap_or l.text [] }

-- a location with a place or a text
abbrev pub says_something : SarifLocation → Bool
says_something m = not (is_none m.place && is_nil m.text)

-- ---- the labels of a report

-- the labels of one source, or of none
pub record SourceLabels : Type 0 where
  pub over : Option SnapshotValue
  pub labels : List Label

-- the labels sorted by offset; labels with equal offsets keep their order
abbrev pub group_over : Option SnapshotValue → List Label → SourceLabels
group_over over labels = record { over = over; labels = in_order labels }

-- further sources, before which `n` sources were read
abbrev pub further_snapshots : List Bool → ℕ → List Section → List SnapshotValue
further_snapshots faults n [] = []
further_snapshots faults n (s ∷ ss) = seen (first_fault faults) n s.source
    ∷ further_snapshots (later_faults faults) (n + 1) ss

abbrev pub further_groups : List SnapshotValue → List Section → List SourceLabels
further_groups [] ss = []
further_groups (it ∷ its) [] = []
further_groups (it ∷ its) (s ∷ ss) = group_over (Some it) s.labels ∷ further_groups its ss

-- the labels of a report: over its source, and over its further ones
abbrev pub source_labels_of : Option SnapshotValue → List SnapshotValue → Diagnosis → List SourceLabels
source_labels_of over further m =
    group_over over (given_labels m.labels) ∷ further_groups further m.snippets

abbrev pub marks_from : Option SnapshotValue → List Label → List SarifLocation
marks_from over [] = []
marks_from over (l ∷ ls) =
    if says_something (mark_over over l) then mark_over over l ∷ marks_from over ls else marks_from over ls

abbrev pub marks_in : SourceLabels → List SarifLocation
marks_in g = marks_from g.over g.labels

abbrev pub marks_of : List SourceLabels → List SarifLocation
marks_of [] = []
marks_of (g ∷ gs) = marks_in g ++ marks_of gs

-- ---- the primary label

-- the location of a picked label, and the groups without that label
pub record PrimaryPick : Type 0 where
  pub mark : SarifLocation
  pub others : List SourceLabels

-- the first label that passes a test, and the remaining labels
abbrev pub pick_label : (Label → Bool) → List Label → Option (Label × List Label)
pick_label test [] = None
pick_label test (l ∷ ls) =
    if test l then Some (l, ls) else option_map (λ found. (found.0, l ∷ found.1)) (pick_label test ls)

-- the same for a group with a source
abbrev pub pick_over : (Label → Bool) → Option SnapshotValue → List Label → Option (SarifLocation × SourceLabels)
pick_over test None labels = None
pick_over test (Some it) labels =
    option_map (λ found. (mark_over (Some it) found.0, record { over = Some it; labels = found.1 }))
    (pick_label test labels)

abbrev pub pick_in : (Label → Bool) → SourceLabels → Option (SarifLocation × SourceLabels)
pick_in test g = pick_over test g.over g.labels

-- the picked label in this group, else the one in the groups after it
abbrev pub picked_or : Option (SarifLocation × SourceLabels) → SourceLabels → List SourceLabels → Option PrimaryPick
    → Option PrimaryPick
picked_or None g gs later = option_map (λ it. record { mark = it.mark; others = g ∷ it.others }) later
picked_or (Some found) g gs later = Some (record { mark = found.0; others = found.1 ∷ gs })

-- the first label that passes a test, in the order of sources
abbrev pub pick : (Label → Bool) → List SourceLabels → Option PrimaryPick
pick test [] = None
pick test (g ∷ gs) = picked_or (pick_in test g) g gs (pick test gs)

abbrev pub first_picked : Option PrimaryPick → Option PrimaryPick → Option PrimaryPick
first_picked None otherwise = otherwise
first_picked (Some found) otherwise = Some found

-- the first label marked as primary in the order of sources, else the first label of the first source that has one
abbrev pub primary_in : List SourceLabels → Option PrimaryPick
primary_in groups = first_picked (pick (λ l. l.primary) groups) (pick (λ l. true) groups)

abbrev pub without_region : SnapshotValue → SarifLocation
without_region it = record { place = Some (record { source = it.source; area = None }); text = [] }

-- a location, else that of the report's source
abbrev pub mark_or : Option SarifLocation → Option SnapshotValue → Option SarifLocation
mark_or None over = option_map without_region over
mark_or (Some mark) over = Some mark

-- the primary label's location, else that of the report's source
abbrev pub primary_mark : Option PrimaryPick → Option SnapshotValue → Option SarifLocation
primary_mark picked over = mark_or (option_map (λ it. it.mark) picked) over

-- the groups without the primary label
abbrev pub others_in : Option PrimaryPick → List SourceLabels → List SourceLabels
others_in None groups = groups
others_in (Some it) groups = it.others

abbrev pub other_marks : Option PrimaryPick → List SourceLabels → List SarifLocation
other_marks picked groups = marks_of (others_in picked groups)
