-- Fixes that `job --fix` applies, and the text that it writes.
use Rattle.std.specs.Prelude.{◌≡◌, ℕ, ◌<◌, Bool, true, false, not, List, [], ◌∷◌, ◌++◌, Option, Some, None, map, length}
use Rattle.std.specs.Prelude.{IfSome, IsUtf8, bytes_eq, codes, if◌then◌else◌}
use Rattle.std.specs.List.{filter, list_any}
use Rattle.miette_lines.specs.rules.Lists.{is_nil}
use Rattle.miette_description.specs.rules.Description.{tree_of_bytes}
use Rattle.miette_fixes.specs.rules.ApplyingAll.{all_applied, taken}
use Rattle.miette_fixes.specs.rules.Edits.{FixModel, Replacement, is_machine_applicable}
use Rattle.miette_protocol.specs.rules.Reading.{Source, contents_of}
use Rattle.miette_report.specs.rules.Job.{IsNoDescription}
use Rattle.miette_tree.specs.rules.Tree.{Tree, tree, Cause, diagnostic, texts, Trees, no_trees, more_trees, source_of}

-- the fixes of a report that inherits the source; none if it has its own
abbrev pub inheriting : Option Source → List FixModel → List FixModel
inheriting None fixes = fixes
inheriting (Some own) fixes = []

-- The fixes for a report's source: its own, then those of its causes, then those of its related reports and of the
-- reports below them, as long as they inherit that source.
abbrev mutual
  pub fixes_over : Tree → List FixModel
  fixes_over (tree m s c r) = m.fixes ++ (fixes_of_causes c ++ fixes_of_related r)

  -- a cause of a cause inherits from the report at the top, like the cause itself
  pub fixes_of_causes : Cause → List FixModel
  fixes_of_causes (diagnostic (tree m s c r)) = inheriting s (m.fixes ++ fixes_of_related r) ++ fixes_of_causes c
  fixes_of_causes (texts ts) = []

  pub fixes_of_related : Trees → List FixModel
  fixes_of_related no_trees = []
  fixes_of_related (more_trees t ts) = inheriting (source_of t) (fixes_over t) ++ fixes_of_related ts

-- all fixes, or only the machine-applicable ones
abbrev pub asked_fixes : Bool → List FixModel → List FixModel
asked_fixes true fixes = fixes
asked_fixes false fixes = filter (λ fix. is_machine_applicable fix.applicability) fixes

abbrev pub asked_edits : Bool → Tree → List (List Replacement)
asked_edits all t = map (λ fix. fix.edits) (asked_fixes all (fixes_over t))

-- the text of a source, read with as many lines as possible
abbrev pub whole_text : Source → List ℕ
whole_text source = (contents_of source (record { offset = 0; len = 0 }) 0 18446744073709551615).bytes

-- the text with all fixes applied that can be; empty without a source
abbrev pub job_fixed_text : Option Source → List (List Replacement) → List ℕ
job_fixed_text None fixes = []
job_fixed_text (Some source) fixes = all_applied (whole_text source) fixes

-- whether a fix was left out; without a source, whether one has edits
abbrev pub some_left : Option Source → List (List Replacement) → Bool
some_left None fixes = list_any (λ edits. not (is_nil edits)) fixes
some_left (Some source) fixes = list_any not (taken (length (whole_text source)) [] fixes)

-- The input is a description. The property holds for its fixed text and for whether a fix was left out.
abbrev pub Fixes : Bool → List ℕ → (List ℕ → Bool → Type 0) → Type 0
Fixes all bytes holds = IsUtf8 bytes × ((t : Tree) × (tree_of_bytes bytes ≡ Some t)
    × holds (job_fixed_text (source_of t) (asked_edits all t)) (some_left (source_of t) (asked_edits all t)))

-- ---- by the words

-- `--fix` applies the machine-applicable fixes, `--fix=all` all fixes
abbrev pub fixing_of : List (List ℕ) → Option Bool
fixing_of [] = None
fixing_of (word ∷ []) =
    if bytes_eq word (codes "--fix") then Some false
    else (if bytes_eq word (codes "--fix=all") then Some true else None)
fixing_of (word ∷ next ∷ words) = None

-- The exit code, by the input: 0 if all fixes were applied, 5 if one was left out.
pub record IsFixStatus (all : Bool) (told : Option (List ℕ)) (status : ℕ) : Type 0 where
  pub below : status < 6
  pub done : status ≡ 0 → IfSome told (λ bytes. Fixes all bytes (λ text left. left ≡ false))
  pub some_left : status ≡ 5 → IfSome told (λ bytes. Fixes all bytes (λ text left. left ≡ true))
  pub description : status ≡ 3 → IfSome told IsNoDescription
  pub called : ¬ (status ≡ 2)
  pub told_whole : ¬ (status ≡ 4)
