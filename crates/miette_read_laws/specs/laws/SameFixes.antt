-- What readers of a log are told to change is what a fix changes.
use Rattle.std.specs.Prelude.{◌≡◌, ℕ, ◌+◌, ◌-◌, ◌<◌, ◌≤◌, List, [], ◌∷◌, length, map, None}
use Rattle.miette_fixes.specs.rules.Applying.{applied, edits_error}
use Rattle.miette_fixes.specs.rules.Edits.{Replacement, end_of}
use Rattle.miette_sarif.specs.rules.Findings.{ReplacementValue}

-- a replacement of a log as an edit: it deletes the bytes of its region, and inserts its text there
abbrev pub as_edit : ReplacementValue → Replacement
as_edit r = record {
  span = record { offset = r.deleted.start.offset; len = r.deleted.end.offset - r.deleted.start.offset };
  text = r.text;
}

-- Each edit begins at `low` or later, where the previous one ends or later, and ends in a source of `n` bytes. No two
-- begin at one offset.
abbrev pub AreParted : ℕ → ℕ → ℕ → List Replacement → Type 0
AreParted n at low [] = Unit {0}
AreParted n at low (edit ∷ edits) =
    (at ≤ edit.span.offset) × (low ≤ edit.span.offset) × (end_of edit ≤ n)
    × AreParted n (end_of edit) (edit.span.offset + 1) edits

-- The replacements can be applied in any order, and make the text that the edits make.
pub record DoTheSame (bytes : List ℕ) (edits : List Replacement) (rs : List ReplacementValue) : Type 0 where
  pub valid : edits_error (length bytes) (map as_edit rs) ≡ None
  pub apart : AreParted (length bytes) 0 0 (map as_edit rs)
  pub same : applied bytes (map as_edit rs) ≡ applied bytes edits
