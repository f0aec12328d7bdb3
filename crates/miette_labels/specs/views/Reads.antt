-- The results of reading labels.
use Rattle.std.specs.Prelude.{ℕ, ◌≡◌, ◌<◌, true, false, List, Bool, map, length, codes, Option, Some, None}
use Rattle.std.specs.List.{All}
use Rattle.miette_protocol.specs.views.Meaning.{Label}
use Rattle.miette_protocol.specs.rules.Reading.{Span, Source, Contents, IsInBounds}
use Rattle.miette_labels.specs.declared.reading.ReadLabel.{ReadLabel}
use Rattle.miette_labels.specs.declared.reading.ReadLabels.{ReadLabels}
use Rattle.miette_labels.specs.declared.reading.ReadLabels.TheVariants as reads
use Rattle.miette_labels.specs.declared.reading.RefusalReason.{RefusalReason}
use Rattle.miette_labels.specs.declared.reading.RefusalReason.TheVariants as reasons
use Rattle.miette_labels.specs.declared.groups.LabelGroup.{LabelGroup}
use Rattle.miette_labels.specs.rules.Answers.{NoneFails}
use Rattle.miette_labels.specs.rules.Around.{contents_around, group_context}
use Rattle.miette_labels.specs.rules.Contexts.{contents}
use Rattle.miette_labels.specs.views.ProgramLabels.{label_at}
use Rattle.miette_labels.specs.rules.Groups.{first_refusal, groups_of, groups_fail}

-- the name of a reason
abbrev pub reason_name : RefusalReason → List ℕ
reason_name reasons.IoError = codes "IoError"
reason_name reasons.OutOfBounds = codes "OutOfBounds"

-- a label that was read with its context, and is in the given list at its index
pub record IsRead (context : ℕ) (source : Source) (labels : List Label) (read : ReadLabel) : Type 0 where
  pub inside : read.index < length labels
  pub span : read.span ≡ (label_at labels read.index).span
  pub primary : read.primary ≡ (label_at labels read.index).primary
  pub accepted : IsInBounds source.bytes read.span
  pub contents_are : read.contents ≡ contents_around context source labels (label_at labels read.index)

-- all labels were read, in order; or one could not be, for some results of reads
abbrev pub AreRead : ℕ → Source → List Label → List Label → ReadLabels → Type 0
AreRead context source labels order (reads.All read) =
    (map (λ r. label_at labels r.index) read.items ≡ order) × All (IsRead context source labels) read.items
AreRead context source labels order (reads.Refused index reason) =
    (fails : List Bool) × (source.always_reads ≡ true → NoneFails fails)
    × (first_refusal source.bytes fails order ≡ Some (record {
      label = label_at labels index;
      name
          = reason_name reason;
    }))
    × (index < length labels)

-- these are the contents of an in-bounds span read with `context` context lines
pub record AreContents (context : ℕ) (source : Source) (span : Span) (held : Contents) : Type 0 where
  pub accepted : IsInBounds source.bytes span
  pub is : held ≡ contents context source span

-- the groups of sorted labels, for some results of reads in which no group fails
pub record AreGroups (context : ℕ) (source : Source) (labels : List Label) (groups : List LabelGroup) : Type 0 where
  pub fails : List Bool
  pub always : source.always_reads ≡ true → NoneFails fails
  pub are : map (λ group. group.span) groups ≡ groups_of context source fails labels
  pub read : groups_fail context source fails labels ≡ false
  pub contents_are : All (λ group. AreContents (group_context context labels) source group.span group.contents) groups

-- the read of a group fails, for some results of reads
pub record IsUnread (context : ℕ) (source : Source) (labels : List Label) : Type 0 where
  pub fails : List Bool
  pub always : source.always_reads ≡ false
  pub unread : groups_fail context source fails labels ≡ true

-- the groups of labels, or that a read failed
abbrev pub IsGroupsResult : ℕ → Source → List Label → Option (List LabelGroup) → Type 0
IsGroupsResult context source labels None = IsUnread context source labels
IsGroupsResult context source labels (Some groups) = AreGroups context source labels groups
