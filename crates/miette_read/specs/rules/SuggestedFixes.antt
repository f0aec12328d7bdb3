-- The suggestions of a message, as fixes.
use Rattle.std.specs.Prelude.{ℕ, ◌-◌, List, [], ◌∷◌, ◌++◌, if◌then◌else◌, bytes_eq, Bool}
use Rattle.std.specs.List.{fold, list_any}
use Rattle.miette_fixes.specs.declared.applicability.Applicability.{Applicability}
use Rattle.miette_fixes.specs.rules.ApplyingAll.{conflict}
use Rattle.miette_fixes.specs.rules.Edits.{FixModel, Replacement}
use Rattle.miette_protocol.specs.rules.Reading.{Source}
use Rattle.miette_read.specs.rules.Places.{ByteRange}

-- An edit with its file and the file's name.
pub record FileEdit : Type 0 where
  pub name : List ℕ
  pub source : Source
  pub edit : Replacement

-- A suggestion whose locations are all found.
pub record Suggestion : Type 0 where
  pub message : List ℕ
  pub applicability : Applicability
  pub edits : List FileEdit

-- An edit at a range that is found in its file.
abbrev pub edit_found : List ℕ → List ℕ → Source × ByteRange → FileEdit
edit_found name text found = record {
  name = name;
  source = found.0;
  edit = record {
    span = record { offset = found.1.start; len = found.1.end - found.1.start };
    text = text;
  };
}

abbrev pub is_in : List ℕ → FileEdit → Bool
is_in name e = bytes_eq e.name name

-- The finished fixes, and the fix that is being built.
pub record SplitFixes : Type 0 where
  pub done : List FixModel
  pub fix : FixModel

-- The edit is added to the fix that is being built. If it conflicts with an edit there, it starts another fix.
abbrev pub with_edit : SplitFixes → Replacement → SplitFixes
with_edit p e =
    if list_any (conflict e) p.fix.edits
    then record { done = p.done ++ p.fix ∷ []; fix = record p.fix { edits = e ∷ [] } }
    else record p { fix = record p.fix { edits = p.fix.edits ++ e ∷ [] } }

-- Edits of other files are skipped.
abbrev pub with_item : List ℕ → SplitFixes → FileEdit → SplitFixes
with_item name p item = if is_in name item then with_edit p item.edit else p

abbrev pub without_edits : List ℕ → Applicability → FixModel
without_edits message sure = record { message = message; applicability = sure; edits = [] }

abbrev pub begun : List ℕ → Applicability → SplitFixes
begun message sure = record { done = []; fix = without_edits message sure }

-- The fix, if it has edits.
abbrev pub fix_by : FixModel → List Replacement → List FixModel
fix_by fix [] = []
fix_by fix (e ∷ es) = fix ∷ []

abbrev pub all_parts : SplitFixes → List FixModel
all_parts p = p.done ++ fix_by p.fix p.fix.edits

-- The fixes of a suggestion's edits over one file.
abbrev pub fixes_in : List ℕ → List ℕ → Suggestion → List FixModel
fixes_in name message offer = all_parts (fold (with_item name) (begun message offer.applicability) offer.edits)
