-- The groups of labels of the code, as the rules represent them.
use Rattle.std.specs.Prelude.{List, map}
use Rattle.miette_protocol.specs.views.Meaning.{Label}
use Rattle.miette_sarif.specs.declared.labels.SourceLabels.{SourceLabels as GroupHere}
use Rattle.miette_sarif.specs.rules.Marks.{SourceLabels}
use Rattle.miette_sarif.specs.views.Sources.{over_of}
use denote.Ref.{Bor}

-- the labels that the references point to
abbrev pub labels_in : List (Bor Label) → List Label
labels_in labels = map (λ l. l.now) labels

abbrev pub group_of : GroupHere → SourceLabels
group_of it = record { over = over_of it.seen; labels = labels_in it.labels.items }

abbrev pub groups_in : List GroupHere → List SourceLabels
groups_in groups = map group_of groups
