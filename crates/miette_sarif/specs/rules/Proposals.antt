-- Fixes as readers of a log can apply them: edits of whole characters and line terminators that don't touch.
use Rattle.std.specs.Prelude.{ℕ, List, [], ◌∷◌, ◌++◌, length, map, slice_range, Bool, ◌&&◌, ◌||◌, ◌==◌, nat_lt}
use Rattle.std.specs.Prelude.{if◌then◌else◌, Option, Some, None, is_none}
use Rattle.std.specs.List.{list_all}
use Rattle.std.specs.Str.{is_utf8}
use Rattle.miette_lines.specs.rules.Lists.{is_nil}
use Rattle.miette_fixes.specs.rules.Applying.{by_offset, edits_error}
use Rattle.miette_fixes.specs.rules.Edits.{FixModel, Replacement, end_of}
use Rattle.miette_positions.specs.declared.position.PositionEncoding.TheVariants.{Utf16}
use Rattle.miette_positions.specs.declared.position.Stretch.{Stretch}
use Rattle.miette_positions.specs.rules.Regions.{stop_after, stop_before}
use Rattle.miette_sarif.specs.rules.Findings.{ApplicableFix, ReplacementValue, SnapshotValue, SourceName}

-- joined edits: the range that covers them, and the edits by offset
pub record Joined : Type 0 where
  pub deleted : Stretch
  pub edits : List Replacement

abbrev pub widened : List ℕ → Replacement → Stretch
widened bytes e = record { start = stop_before Utf16 bytes e.span.offset; end = stop_after Utf16 bytes (end_of e) }

abbrev pub later_end : Stretch → Stretch → Stretch
later_end s t = record s { end = if nat_lt s.end.offset t.end.offset then t.end else s.end }

-- whether the second range overlaps the first, or begins at the same offset
abbrev pub meets : Stretch → Stretch → Bool
meets s t = nat_lt t.start.offset s.end.offset || (t.start.offset == s.start.offset)

-- joins edits that touch, after the joined ones so far
abbrev pub joined_from : List ℕ → Joined → List Replacement → List Joined
joined_from bytes j [] = j ∷ []
joined_from bytes j (e ∷ es) =
    if meets j.deleted (widened bytes e)
    then joined_from bytes (record {
      deleted = later_end j.deleted (widened bytes e);
      edits = j.edits ++ e ∷ [];
    }) es
    else j ∷ joined_from bytes (record { deleted = widened bytes e; edits = e ∷ [] }) es

abbrev pub joined : List ℕ → List Replacement → List Joined
joined bytes [] = []
joined bytes (e ∷ es) = joined_from bytes (record { deleted = widened bytes e; edits = e ∷ [] }) es

-- the source between two offsets with these edits applied
abbrev pub text_between : List ℕ → ℕ → ℕ → List Replacement → List ℕ
text_between bytes at end [] = slice_range bytes at end
text_between bytes at end (e ∷ es) =
    slice_range bytes at e.span.offset ++ e.text ++ text_between bytes (end_of e) end es

abbrev pub replaced : List ℕ → Joined → ReplacementValue
replaced bytes j = record {
  deleted = j.deleted;
  text = text_between bytes j.deleted.start.offset j.deleted.end.offset j.edits;
}

abbrev pub replacements : List ℕ → List Replacement → List ReplacementValue
replacements bytes edits = map (replaced bytes) (joined bytes (by_offset edits))

-- the replacements of edits, if they can be applied and each text is UTF-8
abbrev pub applicable : List ℕ → List Replacement → Option (List ReplacementValue)
applicable bytes edits =
    if is_none (edits_error (length bytes) edits) && list_all (λ r. is_utf8 r.text) (replacements bytes edits)
    then Some (replacements bytes edits) else None

abbrev pub proposed : SourceName → FixModel → Option (List ReplacementValue) → Option ApplicableFix
proposed name fix None = None
proposed name fix (Some replaced) =
    if is_nil fix.edits then None
    else Some (record {
      message = fix.message;
      applicability = fix.applicability;
      source = name;
      replacements = replaced;
    })

abbrev pub proposal_in : SourceName → Option (List ℕ) → FixModel → Option ApplicableFix
proposal_in name None fix = None
proposal_in name (Some bytes) fix = proposed name fix (applicable bytes fix.edits)

-- a fix as a log has it, if it has edits and they can be applied
abbrev pub proposal_over : Option SnapshotValue → FixModel → Option ApplicableFix
proposal_over None fix = None
proposal_over (Some it) fix = proposal_in it.source it.text fix

abbrev pub listed_fix : Option ApplicableFix → List ApplicableFix → List ApplicableFix
listed_fix None more = more
listed_fix (Some p) more = p ∷ more

abbrev pub proposals : Option SnapshotValue → List FixModel → List ApplicableFix
proposals over [] = []
proposals over (fix ∷ fixes) = listed_fix (proposal_over over fix) (proposals over fixes)

-- the messages of fixes that can't be applied
abbrev pub refused_fix : Option ApplicableFix → List ℕ → List (List ℕ) → List (List ℕ)
refused_fix None message more = message ∷ more
refused_fix (Some p) message more = more

abbrev pub refused : Option SnapshotValue → List FixModel → List (List ℕ)
refused over [] = []
refused over (fix ∷ fixes) = refused_fix (proposal_over over fix) fix.message (refused over fixes)
