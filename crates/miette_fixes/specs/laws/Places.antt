-- How many bytes edits delete and insert, and where bytes are after them.
use Rattle.std.specs.Prelude.{ℕ, ◌+◌, ◌-◌, ◌<◌, ◌≤◌, ◌≡◌, List, ◌∷◌, ◌++◌, length, Bool, false, ◌&&◌, nat_lt, nat_le}
use Rattle.std.specs.Prelude.{if◌then◌else◌}
use Rattle.std.specs.List.{list_any, sum_by}
use Rattle.miette_fixes.specs.rules.Applying.{by_offset}
use Rattle.miette_fixes.specs.rules.Edits.{Replacement, end_of}

-- how many bytes edits delete and how many they insert
abbrev pub deleted : List Replacement → ℕ
deleted edits = sum_by (λ edit. edit.span.len) edits

abbrev pub inserted : List Replacement → ℕ
inserted edits = sum_by (λ edit. length edit.text) edits

-- whether the byte at an offset is in the span of one of these edits
abbrev pub is_covered : ℕ → List Replacement → Bool
is_covered at edits = list_any (λ edit. nat_le edit.span.offset at && nat_lt at (end_of edit)) edits

-- how many bytes the edits that begin at or before an offset delete and insert
abbrev pub deleted_before : ℕ → List Replacement → ℕ
deleted_before at edits = sum_by (λ edit. if nat_le edit.span.offset at then edit.span.len else 0) edits

abbrev pub inserted_before : ℕ → List Replacement → ℕ
inserted_before at edits = sum_by (λ edit. if nat_le edit.span.offset at then length edit.text else 0) edits

-- the offset in the new text of the byte at this offset of the source
abbrev pub shifted_offset : List Replacement → ℕ → ℕ
shifted_offset edits at = at + inserted_before at edits - deleted_before at edits

-- the offset in the new text of an edit's text, after these edits
abbrev pub edit_text_start : List Replacement → Replacement → ℕ
edit_text_start before edit = edit.span.offset + inserted before - deleted before

-- the byte at this offset of the new text is a byte of the source that no edit covers
pub record IsSourceByte (source : List ℕ) (edits : List Replacement) (at : ℕ) : Type 0 where
  pub from : ℕ
  pub within : from < length source
  pub stays : is_covered from edits ≡ false
  pub place : shifted_offset edits from ≡ at

-- the byte at this offset of the new text is a byte of an edit's text
pub record IsInserted (edits : List Replacement) (at : ℕ) : Type 0 where
  pub before : List Replacement
  pub edit : Replacement
  pub after : List Replacement
  pub order : by_offset edits ≡ before ++ edit ∷ after
  pub low : edit_text_start before edit ≤ at
  pub high : at < edit_text_start before edit + length edit.text
