-- The lines that edits touch, and the text after the edits.
use Rattle.std.specs.Prelude.{ℕ, ◌+◌, ◌-◌, List, [], ◌∷◌, length, take, slice_index, slice_range, Bool, ◌&&◌, ◌==◌}
use Rattle.std.specs.Prelude.{nat_lt, nat_le, if◌then◌else◌}
use Rattle.miette_lines.specs.rules.Lines.{LF, CR, ends_line, line_of, line_start, line_end}
use Rattle.miette_fixes.specs.rules.Edits.{Replacement, end_of}
use Rattle.miette_fixes.specs.rules.Applying.{text_from}

-- adds a byte in front of lines; it belongs to the first line unless it ends a line itself
abbrev pub onto_line : ℕ → List (List ℕ) → List (List ℕ)
onto_line byte [] = (byte ∷ []) ∷ []
onto_line byte (line ∷ lines) = (byte ∷ line) ∷ lines

-- the lines of bytes, each with its terminator
abbrev pub line_texts : List ℕ → List (List ℕ)
line_texts [] = []
line_texts (byte ∷ bytes) =
    if ends_line byte (slice_index bytes 0) then (byte ∷ []) ∷ line_texts bytes else onto_line byte (line_texts bytes)

-- the number of bytes of lines
abbrev pub bytes_of : List (List ℕ) → ℕ
bytes_of [] = 0
bytes_of (line ∷ lines) = length line + bytes_of lines

-- Where the lines touched by a block's edits begin and end. An edit touches the lines from its offset to its end. An
-- edit at the end of the source may also touch the missing line after the last terminator, which is empty.
abbrev pub touched_from : List ℕ → List Replacement → ℕ
touched_from source [] = length source
touched_from source (edit ∷ edits) = line_start source (line_of source edit.span.offset)

abbrev pub touched_to : List ℕ → List Replacement → ℕ
touched_to source [] = length source
touched_to source (edit ∷ []) = line_end source (line_of source (end_of edit))
touched_to source (edit ∷ next ∷ edits) = touched_to source (next ∷ edits)

-- the text between two offsets once edits are applied
abbrev pub edited_between : List ℕ → ℕ → ℕ → List Replacement → List ℕ
edited_between source from to edits = text_from (take to source) from edits

-- whether the new text of touched lines begins with LF after a lone CR, so that both become one terminator
abbrev pub joins_terminator : List ℕ → List Replacement → Bool
joins_terminator source edits =
    nat_lt 0 (touched_from source edits)
    && ((slice_index source (touched_from source edits - 1) == CR)
    && (slice_index (edited_between source (touched_from source edits) (touched_to source edits) edits) 0 == LF))

-- Where a block begins and ends. If its new text joins the previous line's terminator, that line belongs to the block.
abbrev pub block_from : List ℕ → List Replacement → ℕ
block_from source edits =
    if joins_terminator source edits then line_start source (line_of source (touched_from source edits) - 1)
    else touched_from source edits

abbrev pub block_to : List ℕ → List Replacement → ℕ
block_to source edits = touched_to source edits

-- adds an edit in front of blocks; it joins the first block if it ends at the block's start or later
abbrev pub onto_blocks : List ℕ → Replacement → List (List Replacement) → List (List Replacement)
onto_blocks source edit [] = (edit ∷ []) ∷ []
onto_blocks source edit (block ∷ blocks) =
    if nat_le (block_from source block) (end_of edit) then (edit ∷ block) ∷ blocks
    else (edit ∷ []) ∷ block ∷ blocks

-- the blocks of edits sorted by offset: edits that share a line are together
abbrev pub blocks : List ℕ → List Replacement → List (List Replacement)
blocks source [] = []
blocks source (edit ∷ edits) = onto_blocks source edit (blocks source edits)

-- the lines of a block before its edits, and after them
abbrev pub old_lines : List ℕ → List Replacement → List (List ℕ)
old_lines source block = line_texts (slice_range source (block_from source block) (block_to source block))

abbrev pub new_lines : List ℕ → List Replacement → List (List ℕ)
new_lines source block = line_texts (edited_between source (block_from source block) (block_to source block) block)
