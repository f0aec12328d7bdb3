-- The extents of labels, from their reads.
use Rattle.std.specs.Prelude.{ℕ, ◌+◌, ◌-◌, ◌≡◌, max, List, [], map, Option, Some, None, Bool, unwrap_or}
use Rattle.std.specs.Prelude.{if◌then◌else◌}
use Rattle.miette_lines.specs.rules.Lines.{line_of}
use Rattle.miette_protocol.specs.views.Meaning.{Label}
use Rattle.miette_labels.specs.declared.reading.ReadLabel.{ReadLabel}
use Rattle.miette_labels.specs.rules.Around.{has_own_context}
use Rattle.miette_labels.specs.rules.Contexts.{end_of_span}
use Rattle.miette_labels.specs.views.ProgramLabels.{label_at}
use Rattle.miette_labels.specs.views.Placing.{end_drawn}
use Rattle.miette_snippet_folds.specs.declared.folds.LabelExtent.{LabelExtent as MadeExtent}
use Rattle.miette_snippet_rules.specs.rules.FoldedLabels.{LabelExtent}

abbrev pub read_extent : ℕ → Bool → List Label → ReadLabel → LabelExtent
read_extent context own labels read = record {
  first = read.span.offset;
  last = max read.span.offset (end_drawn read - 1);
  from = read.contents.span.offset;
  until = max (end_of_span read.contents.span) (read.contents.span.offset + 1);
  around = unwrap_or (label_at labels read.index).context (if own then max 1 context else context);
}

-- the extents of all labels that were read; none if labels aren't folded
abbrev pub read_extents : Option ℕ → ℕ → List Label → List ReadLabel → List LabelExtent
read_extents None context labels reads = []
read_extents (Some limit) context labels reads = map (read_extent context (has_own_context labels) labels) reads

-- the line numbers of an extent are correct for these bytes
pub record HasLines (bytes : List ℕ) (label : MadeExtent) : Type 0 where
  pub first : label.first_line ≡ line_of bytes label.first
  pub last : label.last_line ≡ line_of bytes label.last
  pub from : label.from_line ≡ line_of bytes label.from
