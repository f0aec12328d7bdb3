-- Labels in the code's types.
use Rattle.std.specs.Prelude.{ℕ, false, List, Option, None, slice_get, unwrap_or}
use Rattle.std.specs.Option.{option_copied, option_map_or}
use Rattle.miette_protocol.specs.views.Meaning.{Label}
use Rattle.miette_style.specs.rules.Styles.{plain}
use Rattle.miette_labels.specs.declared.placed.PlacedLabel.{PlacedLabel}
use Rattle.miette_labels.specs.rules.Labels.{DrawnLabel, parts_of}

-- the text of the i-th label
abbrev pub label_text_at : List Label → ℕ → Option (List ℕ)
label_text_at labels i = option_map_or (λ label. label.text) (slice_get labels i) None

-- a prepared label as a drawn label
abbrev pub drawn_of : PlacedLabel → DrawnLabel
drawn_of p = record {
  start = p.start;
  after = p.after;
  style = p.style;
  parts = parts_of (option_copied p.text);
  after_text = p.after_text;
}

-- the i-th label
abbrev pub label_at : List Label → ℕ → Label
label_at labels i = unwrap_or (slice_get labels i)
    (record { text = None; span = record { offset = 0; len = 0 }; primary = false; context = None })

abbrev pub no_label : PlacedLabel
no_label = record { start = 0; after = 0; style = plain; text = None; after_text = false }
