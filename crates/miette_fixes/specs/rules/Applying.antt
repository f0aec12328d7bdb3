-- Which edits are valid, and the text after them.
use Rattle.std.specs.Prelude.{ℕ, ◌+◌, ◌==◌, List, [], ◌∷◌, ◌++◌, drop, slice_range, Option, Some, None}
use Rattle.std.specs.Prelude.{if◌then◌else◌}
use Rattle.std.specs.List.{list_any, position_or_len}
use Rattle.miette_fixes.specs.declared.error.FixError.{FixError}
use Rattle.miette_fixes.specs.declared.error.FixError.TheVariants.{OutOfBounds, Overlap}
use Rattle.miette_fixes.specs.rules.Edits.{Replacement, end_of, ends_after, is_after, overlap, same_span, some_overlap}

-- inserts an edit before the first one that it doesn't sort after
abbrev pub put_edit : Replacement → List Replacement → List Replacement
put_edit edit [] = edit ∷ []
put_edit edit (next ∷ edits) = if is_after edit next then next ∷ put_edit edit edits else edit ∷ next ∷ edits

-- edits sorted by offset, then by length; equal ones keep their order
abbrev pub by_offset : List Replacement → List Replacement
by_offset [] = []
by_offset (edit ∷ edits) = put_edit edit (by_offset edits)

-- the index of the first edit with this one's span, from an index on
abbrev pub index_from : ℕ → Replacement → List Replacement → ℕ
index_from from edit edits = from + position_or_len (same_span edit) (drop from edits)

-- the error for two of these edits that overlap; if both have the same span, they are the first two with it
abbrev pub overlap_error : List Replacement → Replacement → Replacement → FixError
overlap_error edits edit next =
    Overlap (index_from 0 edit edits)
    (index_from (if same_span edit next then index_from 0 edit edits + 1 else 0) next edits)

-- the error for the first of these sorted edits that overlaps the next one
abbrev pub overlap_after : List Replacement → Replacement → List Replacement → Option FixError
overlap_after edits edit [] = None
overlap_after edits edit (next ∷ sorted) =
    if overlap edit next then Some (overlap_error edits edit next) else overlap_after edits next sorted

abbrev pub first_overlap : List Replacement → List Replacement → Option FixError
first_overlap edits [] = None
first_overlap edits (edit ∷ sorted) = overlap_after edits edit sorted

-- why edits can't be applied to a source of `n` bytes, if they can't
abbrev pub edits_error : ℕ → List Replacement → Option FixError
edits_error n edits =
    if list_any (ends_after n) edits then Some (OutOfBounds (position_or_len (ends_after n) edits))
    else if some_overlap edits then first_overlap edits (by_offset edits)
    else None

-- the source from an offset on: its bytes up to the first edit, that edit's text, and the rest in the same way
abbrev pub text_from : List ℕ → ℕ → List Replacement → List ℕ
text_from source at [] = drop at source
text_from source at (edit ∷ edits) =
    slice_range source at edit.span.offset ++ edit.text ++ text_from source (end_of edit) edits

-- the text after the edits
abbrev pub applied : List ℕ → List Replacement → List ℕ
applied source edits = text_from source 0 (by_offset edits)
