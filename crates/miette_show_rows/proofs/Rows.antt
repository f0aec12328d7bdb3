-- What rows give that counts, one after another.
use Rattle.std.proofs.Common.{◌≡◌, ℕ, List, [], ◌∷◌, ◌++◌, Bool, true, false, refl, sym, ap, ◌∙◌, subst, append-nil}
use Rattle.std.proofs.Common.{Result, Ok, Err, OnOk, ap₂, map, string_bytes, length, ◌+◌, ◌<◌, get_or, take}
use Rattle.std.specs.Prelude.{◌==◌, ◌||◌, if◌then◌else◌, is_some, not}
use Rattle.std.specs.HashMap.{get_by_text}
use Rattle.std.specs.List.{flat_map}
use Rattle.std.proofs.lemmas.List.Concat.{flat_map-append}
use Rattle.miette_read.proofs.Steps.{flat_next}
use Rattle.miette_show_rows.specs.rules.Packages.{broken_package, broken_packages, selected_fixes, selected_of}
use Rattle.miette_show_rows.specs.rules.Packages.{is_fix_selected}
use Rattle.miette_show_rows.specs.rules.Packages.{SkippedFixes, left_of, skipped_fixes, stale_of}
use Rattle.miette_show_rows.specs.rules.FixesByFile.{has_name}
use Rattle.miette_show_rows.specs.rules.ApplicableFixes.{RowFixes}
use Rattle.miette_show_rows.specs.views.SelectedFixes.{skipped_in}
use Rattle.miette_show_rows.specs.views.FixSelection.{AddsNames, SelectsFixes, HasNames}
use Rattle.miette_show_rows.specs.views.Holding.{AddsFixes, HoldsAll}
use Rattle.miette_show_rows.specs.declared.fixes_by_file.FixesByFile.{FixesByFile}
use Rattle.miette_show_rows.specs.declared.names.Names.{Names}
use Rattle.miette_show_rows.specs.declared.selected_fixes.SelectedFixes.{SelectedFixes}
use Rattle.miette_show_rows.specs.declared.selected_fixes.FixSelection.{FixSelection}
use Rattle.miette_show_rows.proofs.EachOnce.{held_list, is_held, names_from, names_more, names_none, names_then}
use Rattle.miette_show_rows.proofs.Holds.{adds_none, adds_then}

pick : {A : Type 0} (b : Bool) (x y : A) → b ≡ true → (if b then x else y) ≡ x
pick true x y e = refl
pick false x y e = absurd (cc)

skip : {A : Type 0} (b : Bool) (x y : A) → b ≡ false → (if b then x else y) ≡ y
skip false x y e = refl
skip true x y e = absurd (cc)

one : {X Y : Type 0} (f : X → List Y) (x : X) (ys : List Y) → f x ≡ ys → flat_map f (x ∷ []) ≡ ys
one f x ys e = append-nil (f x) ∙ e

-- ---- packages that have errors

module _ (a b : Names) (rows : List RowFixes) (i : ℕ) (r : RowFixes) (h : i < length rows) (is : r ≡ get_or rows i r)
    (so_far : HasNames a (flat_map broken_package (take i rows))) where
  package_next : (names : List (List ℕ)) → broken_package r ≡ names → AddsNames a b names
      → HasNames b (flat_map broken_package (take (i + 1) rows))
  package_next names same added =
      subst (HasNames b) (sym (flat_next broken_package rows i r h is))
      (names_more a b (flat_map broken_package (take i rows)) (broken_package r) so_far
      (subst (AddsNames a b) (sym same) added))

  pub broken_next : r.grave ≡ true → AddsNames a b (r.package_id ∷ [])
      → HasNames b (flat_map broken_package (take (i + 1) rows))
  broken_next grave added = package_next (r.package_id ∷ []) (pick r.grave _ _ grave) added

  pub whole_next : r.grave ≡ false → b ≡ a → HasNames b (flat_map broken_package (take (i + 1) rows))
  whole_next calm same =
      package_next [] (skip r.grave _ _ calm) (subst (λ (n : Names). AddsNames a n []) (sym same) (names_none a))

-- ---- what counts

-- whether what a row gives counts, by what is held of packages
counts_by : (it : Names) (names : List (List ℕ)) (broken has : Bool) (r : RowFixes) → HasNames it names
    → has ≡ is_some (get_by_text it.table.fixes r.package_id) → (broken || not has) ≡ is_fix_selected broken names r
counts_by it names broken has r held is =
    ap (λ b. broken || not b) (is ∙ is_held it names r.package_id held)

pub counts_asked : (names : List (List ℕ)) (broken : Bool) (r : RowFixes) → broken ≡ true
    → is_fix_selected broken names r ≡ true
counts_asked names broken r e = ap (λ b. b || not (has_name r.package_id names)) e

either_true : (a : Bool) → (a || true) ≡ true
either_true true = refl
either_true false = refl

pub counts_has : (it : Names) (names : List (List ℕ)) (broken has : Bool) (r : RowFixes) → HasNames it names
    → has ≡ is_some (get_by_text it.table.fixes r.package_id) → has ≡ false → is_fix_selected broken names r ≡ true
counts_has it names broken has r held is e =
    sym (counts_by it names broken has r held is) ∙ ap (λ b. broken || not b) e ∙ either_true broken

pub counts_not : (it : Names) (names : List (List ℕ)) (broken has : Bool) (r : RowFixes) → HasNames it names
    → has ≡ is_some (get_by_text it.table.fixes r.package_id) → has ≡ true → broken ≡ false
    → is_fix_selected broken names r ≡ false
counts_not it names broken has r held is e asked =
    sym (counts_by it names broken has r held is) ∙ ap₂ (λ a b. a || not b) asked e

pub both_ok : {A E P Q R : Type 0} (r : Result A E) → OnOk r P → OnOk r Q → (P → Q → R) → OnOk r R
both_ok (Ok x) p q f = f p q
both_ok (Err e) p q f = tt

module _ (broken : Bool) (packages : List (List ℕ)) where
  pub counts_none : (it : FixSelection) → SelectsFixes it it broken packages []
  counts_none it = record { fixes = adds_none it.fixes; left = names_none it.packages; stale = names_none it.files }

  pub counts_then : (a b c : FixSelection) (m n : List RowFixes) → SelectsFixes a b broken packages m
      → SelectsFixes b c broken packages n → SelectsFixes a c broken packages (m ++ n)
  counts_then a b c m n p q = record {
    fixes = subst (AddsFixes a.fixes c.fixes) (sym (flat_map-append (selected_of broken packages) m n))
        (adds_then a.fixes b.fixes c.fixes (flat_map (selected_of broken packages) m)
        (flat_map (selected_of broken packages) n) p.fixes q.fixes);
    left = subst (AddsNames a.packages c.packages) (sym (flat_map-append (left_of broken packages) m n))
        (names_then a.packages b.packages c.packages (flat_map (left_of broken packages) m)
        (flat_map (left_of broken packages) n) p.left q.left);
    stale = subst (AddsNames a.files c.files) (sym (flat_map-append (stale_of broken packages) m n))
        (names_then a.files b.files c.files (flat_map (stale_of broken packages) m)
        (flat_map (stale_of broken packages) n) p.stale q.stale);
  }

  module _ (old new : FixSelection) (r : RowFixes) where
    -- a row that counts
    pub row_counts : is_fix_selected broken packages r ≡ true → AddsFixes old.fixes new.fixes r.fixes
        → AddsNames old.files new.files r.stale → new.packages ≡ old.packages
        → SelectsFixes old new broken packages (r ∷ [])
    row_counts is fixes stale same = record {
      fixes = subst (AddsFixes old.fixes new.fixes) (sym (one (selected_of broken packages) r r.fixes (pick _ _ _ is)))
          fixes;
      left = subst (AddsNames old.packages new.packages) (sym (one (left_of broken packages) r [] (pick _ _ _ is)))
          (subst (λ (n : Names). AddsNames old.packages n []) (sym same) (names_none old.packages));
      stale = subst (AddsNames old.files new.files) (sym (one (stale_of broken packages) r r.stale (pick _ _ _ is)))
          stale;
    }

    -- one that doesn't
    row_left : (names : List (List ℕ)) → is_fix_selected broken packages r ≡ false → left_of broken packages r ≡ names
        → AddsNames old.packages new.packages names → new.fixes ≡ old.fixes → new.files ≡ old.files
        → SelectsFixes old new broken packages (r ∷ [])
    row_left names is left added fixes files = record {
      fixes = subst (AddsFixes old.fixes new.fixes) (sym (one (selected_of broken packages) r [] (skip _ _ _ is)))
          (subst (λ (g : FixesByFile). AddsFixes old.fixes g []) (sym fixes) (adds_none old.fixes));
      left = subst (AddsNames old.packages new.packages) (sym (one (left_of broken packages) r names left)) added;
      stale = subst (AddsNames old.files new.files) (sym (one (stale_of broken packages) r [] (skip _ _ _ is)))
          (subst (λ (n : Names). AddsNames old.files n []) (sym files) (names_none old.files));
    }

    pub package_left : is_fix_selected broken packages r ≡ false → (length r.fixes == 0) ≡ false
        → AddsNames old.packages new.packages (r.package_id ∷ []) → new.fixes ≡ old.fixes → new.files ≡ old.files
        → SelectsFixes old new broken packages (r ∷ [])
    package_left is some = row_left (r.package_id ∷ []) is (skip _ _ _ is ∙ skip _ _ _ some)

    pub nothing_left : is_fix_selected broken packages r ≡ false → (length r.fixes == 0) ≡ true → new ≡ old
        → SelectsFixes old new broken packages (r ∷ [])
    nothing_left is none same =
        row_left [] is (skip _ _ _ is ∙ pick _ _ _ none)
        (subst (λ (c : FixSelection). AddsNames old.packages c.packages []) (sym same) (names_none old.packages))
        (ap (λ (c : FixSelection). c.fixes) same) (ap (λ (c : FixSelection). c.files) same)

abbrev left_by : List (List ℕ) → List (List ℕ) → SkippedFixes
left_by packages files = record { packages = packages; files = files }

-- what counts of all rows
module _ (broken : Bool) (first last : FixSelection) (rows : List RowFixes)
    (all : SelectsFixes first last broken (broken_packages rows) rows) where
  pub all_fixes : HoldsAll first.fixes [] → HoldsAll last.fixes (selected_fixes broken rows)
  all_fixes none = all.fixes [] none

  all_packages : HasNames first.packages []
      → HasNames last.packages (flat_map (left_of broken (broken_packages rows)) rows)
  all_packages none =
      names_from first.packages last.packages (flat_map (left_of broken (broken_packages rows)) rows) none all.left

  all_files : HasNames first.files [] → HasNames last.files (flat_map (stale_of broken (broken_packages rows)) rows)
  all_files none =
      names_from first.files last.files (flat_map (stale_of broken (broken_packages rows)) rows) none all.stale

  pub left_is : HasNames first.packages [] → HasNames first.files [] → (it : SelectedFixes)
      → it.packages.items ≡ last.packages.table.names.items → it.files.items ≡ last.files.table.names.items
      → skipped_in it ≡ skipped_fixes broken rows
  left_is no_packages no_files it packages files =
      ap₂ (λ (a b : List (List ℕ)). left_by a b)
      (ap (map string_bytes) packages ∙ held_list last.packages _ (all_packages no_packages))
      (ap (map string_bytes) files ∙ held_list last.files _ (all_files no_files))
