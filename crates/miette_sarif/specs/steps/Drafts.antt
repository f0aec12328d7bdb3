-- Replacements under construction, edit by edit.
use Rattle.std.specs.Prelude.{ℕ, List, [], ◌∷◌, ◌++◌, map, slice_range, Option, Some, None, if◌then◌else◌}
use Rattle.std.specs.List.{list_all}
use Rattle.std.specs.Str.{is_utf8}
use Rattle.miette_fixes.specs.rules.Edits.{Replacement, end_of}
use Rattle.miette_positions.specs.declared.position.Stretch.{Stretch}
use Rattle.miette_sarif.specs.rules.Findings.{ReplacementValue}
use Rattle.miette_sarif.specs.rules.Proposals.{later_end, meets, widened}

-- a replacement under construction; `text` has the source up to the offset `reached`
pub record DraftValue : Type 0 where
  pub deleted : Stretch
  pub text : List ℕ
  pub reached : ℕ

-- a draft with one edit
abbrev pub begun : List ℕ → Stretch → Replacement → DraftValue
begun bytes s e = record {
  deleted = s;
  text = slice_range bytes s.start.offset e.span.offset ++ e.text;
  reached = end_of e;
}

-- a draft with one more edit, whose range is added
abbrev pub with_edit : List ℕ → Stretch → DraftValue → Replacement → DraftValue
with_edit bytes s d e = record {
  deleted = later_end d.deleted s;
  text = d.text ++ slice_range bytes d.reached e.span.offset ++ e.text;
  reached = end_of e;
}

-- the drafts of edits in order, after the one so far
abbrev pub drafts_from : List ℕ → DraftValue → List Replacement → List DraftValue
drafts_from bytes d [] = d ∷ []
drafts_from bytes d (e ∷ es) =
    if meets d.deleted (widened bytes e) then drafts_from bytes (with_edit bytes (widened bytes e) d e) es
    else d ∷ drafts_from bytes (begun bytes (widened bytes e) e) es

abbrev pub drafts : List ℕ → List Replacement → List DraftValue
drafts bytes [] = []
drafts bytes (e ∷ es) = drafts_from bytes (begun bytes (widened bytes e) e) es

-- a draft with the rest of its range
abbrev pub finished : List ℕ → DraftValue → ReplacementValue
finished bytes d = record {
  deleted = d.deleted;
  text = d.text ++ slice_range bytes d.reached d.deleted.end.offset;
}

-- the same, if its text is UTF-8
abbrev pub finished_one : ReplacementValue → Option ReplacementValue
finished_one r = if is_utf8 r.text then Some r else None

-- the replacements of drafts, if all texts are UTF-8
abbrev pub made_of : List ℕ → List DraftValue → Option (List ReplacementValue)
made_of bytes ds =
    if list_all (λ r. is_utf8 r.text) (map (finished bytes) ds) then Some (map (finished bytes) ds) else None
