-- Which of several fixes are applied, and the text after them.
use Rattle.std.specs.Prelude.{ℕ, List, [], ◌∷◌, ◌++◌, Bool, ◌&&◌, ◌||◌, not, ◌==◌, if◌then◌else◌, length, is_none, map}
use Rattle.std.specs.List.{list_any, flat_map}
use Rattle.std.specs.Cmp.Lexicographic.{pointwise}
use Rattle.miette_fixes.specs.rules.Applying.{applied, edits_error}
use Rattle.miette_fixes.specs.rules.Edits.{FixModel, Replacement, overlap}
use denote.Ref.{Bor}

-- the edits of each fix
abbrev pub edit_lists : List (Bor FixModel) → List (List Replacement)
edit_lists fixes = map (λ fix. fix.now.edits) fixes

-- Two edits conflict if they overlap or begin at the same offset.
abbrev pub conflict : Replacement → Replacement → Bool
conflict edit other = (edit.span.offset == other.span.offset) || overlap edit other

-- whether an edit of one list conflicts with an edit of the other
abbrev pub some_conflict : List Replacement → List Replacement → Bool
some_conflict edits others = list_any (λ edit. list_any (conflict edit) others) edits

-- the same edits in the same order
abbrev pub same_edit : Replacement → Replacement → Bool
same_edit edit other =
    (edit.span.offset == other.span.offset)
    && ((edit.span.len == other.span.len) && pointwise ◌==◌ edit.text other.text)

abbrev pub equals_some_fix : List Replacement → List (List Replacement) → Bool
equals_some_fix edits lists = list_any (pointwise same_edit edits) lists

-- the edits of all lists
abbrev pub all_edits : List (List Replacement) → List Replacement
all_edits lists = flat_map (λ edits. edits) lists

-- whether a fix can be applied with these edits: its edits are valid, and none conflicts with one of them
abbrev pub counts : ℕ → List Replacement → List Replacement → Bool
counts n others edits = is_none (edits_error n edits) && not (some_conflict edits others)

abbrev pub counted_with : ℕ → List (List Replacement) → List Replacement → List (List Replacement)
counted_with n before edits = if counts n (all_edits before) edits then before ++ edits ∷ [] else before

-- a fix is applied if it can be, or if it has the same edits as one that was
abbrev pub is_taken : ℕ → List (List Replacement) → List Replacement → Bool
is_taken n before edits = counts n (all_edits before) edits || equals_some_fix edits before

-- for each fix, given the edits that were applied before: whether it is applied, and which lists of edits are applied
-- then
abbrev pub taken : ℕ → List (List Replacement) → List (List Replacement) → List Bool
taken n before [] = []
taken n before (edits ∷ fixes) = is_taken n before edits ∷ taken n (counted_with n before edits) fixes

abbrev pub counted : ℕ → List (List Replacement) → List (List Replacement) → List (List Replacement)
counted n before [] = before
counted n before (edits ∷ fixes) = counted n (counted_with n before edits) fixes

-- the text after all edits that are applied
abbrev pub all_applied : List ℕ → List (List Replacement) → List ℕ
all_applied source fixes = applied source (all_edits (counted (length source) [] fixes))
