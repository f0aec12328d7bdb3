-- What a read at the largest offset of labels says about the end of the source.
use Rattle.std.specs.Prelude.{ℕ, ◌≡◌, max, List, [], ◌∷◌, length, Bool, true, false, not, ◌&&◌, ◌==◌, nat_lt, unwrap_or}
use Rattle.miette_protocol.specs.views.Meaning.{Label}
use Rattle.miette_protocol.specs.rules.Reading.{Source}
use Rattle.miette_labels.specs.rules.Labels.{is_at_end}
use Rattle.miette_snippet_rules.specs.declared.options.LayoutOptions.{LayoutOptions}
use Rattle.miette_snippet_rules.specs.rules.SnippetLayout.{asks_for_end, end_lines}

-- the largest offset of the labels, or 0
abbrev pub last_offset : List Label → ℕ
last_offset [] = 0
last_offset (label ∷ labels) = max label.span.offset (last_offset labels)

-- whether a label begins at an offset and has at least one line of context, as far as it sets its own number
abbrev pub asks_at : ℕ → Label → Bool
asks_at offset label = is_at_end offset label && nat_lt 0 (unwrap_or label.context 1)

-- If the read succeeds, it says whether a nonempty source ends at an offset.
pub record TellsEnd (source : Source) (offset : ℕ) (ends : Bool) : Type 0 where
  pub fails : Bool
  pub always : source.always_reads ≡ true → fails ≡ false
  pub is : ends ≡ (not fails && (nat_lt 0 (length source.bytes) && offset == length source.bytes))

-- If the read succeeds, it is known whether labels need the last line.
pub record AsksForEnd (source : Source) (labels : List Label) (asks : Bool) : Type 0 where
  pub fails : Bool
  pub always : source.always_reads ≡ true → fails ≡ false
  pub is : asks ≡ (not fails && asks_for_end (length source.bytes) labels)

-- labels get `lines` lines of context
pub record AreEndLines (layout : LayoutOptions) (source : Source) (labels : List Label) (lines : ℕ) : Type 0 where
  pub fails : Bool
  pub always : source.always_reads ≡ true → fails ≡ false
  pub is : lines ≡ end_lines layout fails source labels
