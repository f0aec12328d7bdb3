-- Labels that were read, prepared for drawing.
use Rattle.std.specs.Prelude.{ℕ, ◌+◌, ◌-◌, min, max, List, [], ◌∷◌, Option, Some, None, Bool, false, ◌&&◌, ◌==◌, nat_lt}
use Rattle.std.specs.Prelude.{if◌then◌else◌}
use Rattle.miette_style.specs.declared.style.Style.{Style}
use Rattle.miette_labels.specs.declared.reading.ReadLabel.{ReadLabel}
use Rattle.miette_labels.specs.declared.placed.PlacedLabel.{PlacedLabel}
use Rattle.miette_labels.specs.rules.Contexts.{end_of_span}
use Rattle.miette_labels.specs.rules.Labels.{DrawnLabel, parts_of, style_at}
use Rattle.miette_labels.specs.views.ProgramLabels.{label_text_at}
use Rattle.miette_protocol.specs.views.Meaning.{Label}
use Rattle.std.specs.Option.{option_copied}

-- the smaller of a label's end and the end of its read's contents, but at least its start
abbrev pub end_drawn : ReadLabel → ℕ
end_drawn read = max read.span.offset (min (end_of_span read.span) (end_of_span read.contents.span))

-- whether the contents of a read have bytes before its label and none from there on
abbrev pub reads_before : ReadLabel → Bool
reads_before read = nat_lt read.contents.span.offset read.span.offset
    && end_of_span read.contents.span == read.span.offset

-- the end of the source, as the first such read reveals it
abbrev pub source_end_from_reads : List ReadLabel → Option ℕ
source_end_from_reads [] = None
source_end_from_reads (read ∷ reads) = if reads_before read then Some read.span.offset else source_end_from_reads reads

-- whether that is a label's offset
abbrev pub begins_at_end : Option ℕ → ℕ → Bool
begins_at_end None offset = false
begins_at_end (Some end) offset = offset == end

-- a prepared label, with its text as bytes
pub record LabelPlacement : Type 0 where
  pub start : ℕ
  pub after : ℕ
  pub style : Style
  pub text : Option (List ℕ)
  pub after_text : Bool

abbrev pub placement_of : PlacedLabel → LabelPlacement
placement_of p = record {
  start = p.start;
  after = p.after;
  style = p.style;
  text = option_copied p.text;
  after_text = p.after_text;
}

-- as a drawn label
abbrev pub drawn_placement : LabelPlacement → DrawnLabel
drawn_placement p = record {
  start = p.start;
  after = p.after;
  style = p.style;
  parts = parts_of p.text;
  after_text = p.after_text;
}

-- a label at the known end of the source is after the text of the last line, at the byte before
abbrev pub place_label : Option ℕ → List Style → ℕ → List Label → ReadLabel → LabelPlacement
place_label end styles i labels read = record {
  start = if begins_at_end end read.span.offset then read.span.offset - 1 else read.span.offset;
  after = if begins_at_end end read.span.offset then read.span.offset - 1 else end_drawn read;
  style = style_at styles i;
  text = label_text_at labels read.index;
  after_text = begins_at_end end read.span.offset;
}

abbrev pub placements_from : Option ℕ → List Style → ℕ → List Label → List ReadLabel → List LabelPlacement
placements_from end styles i labels [] = []
placements_from end styles i labels (read ∷ reads) =
    place_label end styles i labels read ∷ placements_from end styles (i + 1) labels reads
