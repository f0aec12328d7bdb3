-- The model of fixes by file.
use Rattle.std.specs.Prelude.{◌≡◌, ℕ, List, [], ◌++◌, Option, Some, None, map, is_some, bytes_eq, cond, String, Vec}
use Rattle.std.specs.Prelude.{string_bytes}
use Rattle.std.specs.HashMap.{HashMap, get_by_text}
use Rattle.std.specs.declared.alloc.Global.{Global}
use Rattle.miette_fixes.specs.rules.Edits.{FixModel}
use Rattle.miette_show_rows.specs.rules.FixesByFile.{fixes_for, has_name, fixed_file_names}
use Rattle.miette_show_rows.specs.rules.ApplicableFixes.{FileFixes}
use Rattle.miette_show_rows.specs.declared.fixes_by_file.FixesByFile.{FixesByFile}

abbrev pub FixMap : Type 0 → Type 0
FixMap S = HashMap (String Global) (Vec FixModel Global) S

abbrev pub fixes_some : Option (Vec FixModel Global) → List FixModel
fixes_some None = []
fixes_some (Some list) = list.items

-- The fixes of a file, or none.
abbrev pub fixes_at : {S : Type 0} → FixMap S → List ℕ → List FixModel
fixes_at held name = fixes_some (get_by_text held name)

-- The names and the table contain exactly these fixes.
pub record Holds {S : Type 0} (names : List (List ℕ)) (held : FixMap S) (all : List FileFixes) : Type 0 where
  pub named : names ≡ fixed_file_names all
  pub each : (name : List ℕ) → fixes_at held name ≡ fixes_for name all
  pub there : (name : List ℕ) → is_some (get_by_text held name) ≡ has_name name (fixed_file_names all)

-- The fixes replace those under the name.
abbrev pub Puts : {S : Type 0} → FixMap S → FixMap S → List ℕ → Vec FixModel Global → Type 0
Puts old new name fixes =
    (other : List ℕ) → get_by_text new other ≡ cond (bytes_eq name other) (Some fixes) (get_by_text old other)

abbrev pub HoldsAll : FixesByFile → List FileFixes → Type 0
HoldsAll it all = Holds (map string_bytes it.names.items) it.fixes all

-- The fixes are appended.
abbrev pub AddsFixes : FixesByFile → FixesByFile → List FileFixes → Type 0
AddsFixes old new more = (all : List FileFixes) → HoldsAll old all → HoldsAll new (all ++ more)
