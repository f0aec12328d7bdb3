-- Files that are changed after what is left is said.
use Rattle.std.proofs.Common.{◌≡◌, ℕ, List, [], Bool, Option, map, refl, sym, ◌∙◌, ap, ap₂}
use Rattle.std.specs.Prelude.{◌==◌, ◌&&◌, length}
use Rattle.std.specs.List.{flat_map, list_all}
use Rattle.std.specs.Io.KnownBytes.{Appends}
use Rattle.std.proofs.KnownBytes.{Appends-trans}
use Rattle.std.proofs.lemmas.List.{length-map}
use Rattle.std.proofs.lemmas.List.Elements.{All-nil}
use Rattle.miette_devices.specs.views.Device.{TakesBeginning}
use Rattle.miette_fixes.specs.rules.Edits.{FixModel}
use Rattle.miette_show_rows.specs.rules.Packages.{SkippedFixes}
use Rattle.miette_protocol.specs.rules.Reading.{Source}
use Rattle.miette_show_rows.specs.rules.FixesFiles.{FileChange, Changes, ChangesFirst, IsChange, are_all_written}
use Rattle.miette_show_rows.specs.rules.FixesFiles.{change_fault, change_faults}
use Rattle.miette_show_rows.specs.rules.FixesFiles.{is_written, skipped_rows}
use Rattle.miette_show_rows.proofs.Beginnings.{taken_in, taken_then}

-- no name is left where none is held
pub none_held : {X : Type 0} (look : X → List ℕ) (xs ys : List X) (b : Bool) → b ≡ (length xs == 0) → xs ≡ ys
    → b ≡ (length (map look ys) == 0)
none_held look xs ys b e same =
    e ∙ ap (λ (n : ℕ). n == 0) (ap length same ∙ sym (length-map ys look))

module _ (files : List ℕ → Option Source) (refuses : List ℕ → Type 0) (fixes : List ℕ → List FixModel)
    (names : List (List ℕ)) (left : SkippedFixes) (before after last : Option (List ℕ))
    (wrote said : List FileChange → Type 0) where
  pub changes_after : (all none done : Bool) → Appends before after (skipped_rows left)
      → none ≡ (length left.files == 0) → done ≡ (all && none)
      → Changes files refuses fixes names (λ changes. (all ≡ list_all is_written changes) × wrote changes × said changes
      × Appends after last (flat_map change_fault changes))
      → Changes files refuses fixes names (λ changes. (done ≡ are_all_written changes left) × wrote changes
      × said changes
      × Appends before last (change_faults changes left))
  changes_after all none done told empty is (changes, named, each, (all_is, w, s, faults)) = (
    changes,
    named,
    each,
    (
      is ∙ ap₂ (λ (a b : Bool). a && b) all_is empty,
      w,
      s,
      Appends-trans before after last (skipped_rows left) (flat_map change_fault changes) told faults,
    ),
  )

  pub first_after : Appends before after (skipped_rows left)
      → ChangesFirst files refuses fixes names (λ changes. wrote changes × said changes
      × TakesBeginning after last (flat_map change_fault changes))
      → ChangesFirst files refuses fixes names (λ changes. wrote changes × said changes
      × TakesBeginning before last (change_faults changes left))
  first_after told (changes, others, named, each, (w, s, faults)) = (
    changes,
    others,
    named,
    each,
    (w, s, taken_then before after last (skipped_rows left) (flat_map change_fault changes) told faults),
  )

  -- where not all of that is said, none is changed
  pub none_after : TakesBeginning before last (skipped_rows left) → wrote [] → said []
      → ChangesFirst files refuses fixes names (λ changes. wrote changes × said changes
      × TakesBeginning before last (change_faults changes left))
  none_after told w s = (
    [],
    names,
    refl,
    All-nil (IsChange files refuses fixes),
    (w, s, taken_in before last (skipped_rows left) (flat_map change_fault []) told),
  )
