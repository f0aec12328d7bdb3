-- Proposals whose places are all found: they have an edit, and the files of their edits are those that are found.
use Rattle.std.proofs.Common.{arith, ◌≡◌, ℕ, List, ◌∷◌, Option, Some, None, option_map, Bool, true, false, IfSome, refl}
use Rattle.std.proofs.Common.{inl}
use Rattle.std.specs.Prelude.{◌+◌, ◌-◌, ◌≤◌, if◌then◌else◌, is_some, length, nat_lt}
use Rattle.std.specs.List.{AllByRecursion, cons_option, filter_map, list_all}
use Rattle.std.proofs.lemmas.Bool.{and_parts, le-ltb, leb-true}
use Rattle.miette_protocol.specs.rules.Reading.{Source}
use Rattle.miette_read.specs.rules.Places.{ToolLocation, ByteRange, is_within}
use Rattle.miette_read.specs.rules.SuggestedFixes.{FileEdit, edit_found}
use Rattle.miette_read.specs.rules.AnnotationLabels.{file_range}
use Rattle.miette_read.specs.laws.Applying.{IsFound}
use Rattle.miette_read.proofs.Holding.{Has, Is, all_made}
use Rattle.miette_read.proofs.KeptSteps.{place_inside, place_is}

module _ (files : List ℕ → Option Source) where
  ends_within : (bytes : List ℕ) (s : ByteRange) → is_within bytes s ≡ true
      → nat_lt (length bytes) (s.start + (s.end - s.start)) ≡ false
  ends_within bytes s h =
      let parts = and_parts _ _ h in
      let forth : s.start ≤ s.end = leb-true s.start s.end parts.0 in
      let inside : s.end ≤ length bytes = leb-true s.end (length bytes) parts.1 in
      let ends : s.start + (s.end - s.start) ≤ length bytes = omega (arith, forth, inside) in
      le-ltb (length bytes) (s.start + (s.end - s.start)) ends

  edit_by : (name text : List ℕ) (o : Option (Source × ByteRange)) → IfSome o (λ it. files name ≡ Some it.0)
      → IfSome o (λ it. is_within it.0.bytes it.1 ≡ true) → IfSome (option_map (edit_found name text) o) (IsFound files)
  edit_by name text None h k = tt
  edit_by name text (Some it) h k = (h, ends_within it.0.bytes it.1 k)

  pub edit_is : (p : ToolLocation) (text : List ℕ)
      → IfSome (option_map (edit_found p.name text) (file_range files p)) (IsFound files)
  edit_is p text = edit_by p.name text (file_range files p) (place_is files p) (place_inside files p)

  abbrev pub AreSound : List FileEdit → Type 0
  AreSound es = AllByRecursion (IsFound files) es × ((e : FileEdit) × Has (Is e) es)

  module _ {X : Type 0} (edit : X → Option FileEdit) (each : (x : X) → IfSome (edit x) (IsFound files)) where
    first_by : (o : Option FileEdit) (es : List FileEdit) → is_some o ≡ true
        → (e : FileEdit) × Has (Is e) (cons_option o es)
    first_by None es h = cc
    first_by (Some e) es h = (e, inl refl)

    sound_by : (x : X) (xs : List X) (b : Bool) → list_all (λ y. is_some (edit y)) (x ∷ xs) ≡ b
        → IfSome (if b then Some (filter_map edit (x ∷ xs)) else None) AreSound
    sound_by x xs false e = tt
    sound_by x xs true e = (
      all_made (IsFound files) edit each (x ∷ xs),
      first_by (edit x) (filter_map edit xs) (and_parts _ _ e).0,
    )

    -- of these edits, where each one is found, and there is one
    pub all_sound : (x : X) (xs : List X)
        → IfSome (if list_all (λ y. is_some (edit y)) (x ∷ xs) then Some (filter_map edit (x ∷ xs)) else None) AreSound
    all_sound x xs = sound_by x xs (list_all (λ y. is_some (edit y)) (x ∷ xs)) refl
