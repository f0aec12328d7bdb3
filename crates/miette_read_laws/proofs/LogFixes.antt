-- The fixes of a report over a file as a whole can be applied.
use Rattle.std.proofs.Common.{◌≡◌, ◌∙◌, ℕ, List, [], ◌∷◌, Option, Some, None, IfSome, ap, arith, false, length, refl}
use Rattle.std.proofs.Common.{subst, sym}
use Rattle.std.specs.Prelude.{if◌then◌else◌, option_and_then, option_map}
use Rattle.std.specs.List.{AllByRecursion, filter_map}
use Rattle.std.proofs.lemmas.Bool.{le-leb}
use Rattle.std.proofs.lemmas.Option.{same_Some}
use Rattle.miette_fixes.specs.rules.Applying.{edits_error}
use Rattle.miette_fixes.specs.rules.Edits.{FixModel}
use Rattle.miette_protocol.specs.rules.Reading.{Source}
use Rattle.miette_read.specs.rules.Places.{ToolLocation, ByteRange, Annotation}
use Rattle.miette_read.specs.rules.SuggestedFixes.{Suggestion}
use Rattle.miette_read.specs.rules.Reports.{MessageParts, report_tree}
use Rattle.miette_read.specs.rules.AnnotationLabels.{LabelLists, no_label_lists, label_lists, with_located}
use Rattle.miette_read.specs.rules.AnnotationLabels.{range_within}
use Rattle.miette_read.proofs.Holding.{all_each}
use Rattle.miette_tree.specs.rules.Tree.{Tree, source_of, with_fixes, with_source}
use Rattle.miette_read.specs.laws.Applying.{AllFixesApply, AreFound, CanBeApplied}
use Rattle.miette_read.proofs.Applying.{all_apply}
use Rattle.miette_read_sarif.specs.rules.Proposals.{SuggestionDraft, found_suggestions}
use Rattle.miette_read_sarif.specs.rules.Wholes.{file_named, fixes_over, other_suggestion, own_suggestion, tree_over}
use Rattle.miette_read_sarif.proofs.LogsHold.{IsUnmarked}
use Rattle.miette_read_laws.proofs.LogOffers.{log_found, others_found, own_found}

-- the bytes that every file has
abbrev nowhere : ByteRange
nowhere = record { start = 0; end = 0 }

abbrev front : List ℕ → ToolLocation
front name = record { name = name; stretch = Some nowhere; line = 0; column = 0 }

-- a place at the beginning of a file
abbrev begins : List ℕ → Annotation
begins name = record { rows = []; place = Some (front name); primary = false; own = false }

module _ (files : List ℕ → Option Source) (name : List ℕ) (source : Source) (is : files name ≡ Some source)
    (says : MessageParts) (offers : List Suggestion) where
  abbrev over_front : LabelLists → Tree
  over_front done = report_tree says done offers

  there : label_lists files (begins name ∷ [])
      ≡ with_located no_label_lists (begins name) (front name) (Some (source, nowhere))
  there =
      ap (λ (o : Option Source). with_located no_label_lists (begins name) (front name)
      (option_and_then (λ (it : Source). range_within it (Some nowhere)) o)) is
      ∙ ap (λ b. with_located no_label_lists (begins name) (front name) (if b then Some (source, nowhere) else None))
      (le-leb 0 (length source.bytes) (omega arith))

  abbrev Applies : FixModel → Type 0
  Applies fix = edits_error (length source.bytes) fix.edits ≡ None

  applies : (t : Tree) → source_of t ≡ Some source → (fix : FixModel) → CanBeApplied t fix → Applies fix
  applies t own fix h =
      subst (λ (it : Source). edits_error (length it.bytes) fix.edits ≡ None)
      (same_Some h.0 source (sym h.1 ∙ own)) h.2

  -- edits over that file are within it
  pub fixes_apply : AllByRecursion (AreFound files) offers → AllByRecursion Applies (fixes_over name offers)
  fixes_apply found =
      let done = with_located no_label_lists (begins name) (front name) (Some (source, nowhere)) in
      let all : AllFixesApply (over_front done) =
      subst (λ (it : LabelLists). AllFixesApply (over_front it)) there
      (all_apply files says (begins name ∷ []) offers found)
      in
      all_each (CanBeApplied (over_front done)) Applies (applies (over_front done) refl) (fixes_over name offers) all.0

over_apply : (fixes : List FixModel) (source : Source) (says : MessageParts) (offers : List Suggestion)
    (done : LabelLists)
    → IsUnmarked done → AllByRecursion (λ (fix : FixModel). edits_error (length source.bytes) fix.edits ≡ None) fixes
    → AllFixesApply (report_tree says done offers)
    → AllFixesApply (with_fixes fixes (with_source source (report_tree says done offers)))
over_apply fixes source says offers done none own h =
    let over = λ (it : LabelLists). with_fixes fixes (with_source source (report_tree says it offers)) in
    let bare : LabelLists = record { marks = []; files = []; texts = none.0 } in
    let bare_apply : AllFixesApply (report_tree says bare offers) =
    subst (λ (it : LabelLists). AllFixesApply (report_tree says it offers)) none.1 h in
    subst (λ (it : LabelLists). AllFixesApply (over it)) (sym none.1) (
      all_each (λ (fix : FixModel). edits_error (length source.bytes) fix.edits ≡ None) (CanBeApplied (over bare))
          (λ fix applies. (source, refl, applies)) fixes own,
      bare_apply.1,
    )

-- a file with its name is the one that is found by it
abbrev IsNamed : (List ℕ → Option Source) → List ℕ × Source → Type 0
IsNamed files file = files file.0 ≡ Some file.1

with_name : (files : List ℕ → Option Source) (name : List ℕ) (o : Option Source) → files name ≡ o
    → IfSome {T = List ℕ × Source} (option_map (λ (source : Source). (name, source)) o) (IsNamed files)
with_name files name None e = tt
with_name files name (Some source) e = e

pub all_named : (files : List ℕ → Option Source) (o : Option (List ℕ))
    → IfSome (option_and_then (file_named files) o) (IsNamed files)
all_named files None = tt
all_named files (Some name) = with_name files name (files name) refl

pub tree_applies : (files : List ℕ → Option Source) (says : MessageParts) (told : List Annotation)
    (ds : List SuggestionDraft)
    (o : Option (List ℕ × Source)) → IfSome o (λ file. IsUnmarked (label_lists files told)) → IfSome o (IsNamed files)
    → AllFixesApply (tree_over files says told ds o)
tree_applies files says told ds None plain is =
    all_apply files says told (found_suggestions files ds) (log_found files ds)
tree_applies files says told ds (Some file) plain is =
    let own = filter_map (own_suggestion files file.0) ds in
    let others = filter_map (other_suggestion files file.0) ds in
    over_apply (fixes_over file.0 own) file.1 says others (label_lists files told) plain
    (fixes_apply files file.0 file.1 is says own (own_found files file.0 ds))
    (all_apply files says told others (others_found files file.0 ds))
