-- What the words in front ask for, word by word.
use Rattle.std.proofs.Common.{◌≡◌, ℕ, List, [], ◌∷◌, Bool, true, false, Option, Some, None, refl, sym, ap, ◌∙◌, codes}
use Rattle.std.proofs.Common.{bytes_eq, map}
use Rattle.std.specs.Prelude.{◌||◌, if◌then◌else◌, option_and_then}
use Rattle.miette_show.specs.rules.ShowWords.{FrontWords, asked_from, folder_named, format_named, is_front}
use Rattle.miette_show.specs.rules.ShowWords.{with_broken, with_fix, with_from, with_options, with_root}
use Rattle.miette_show.specs.declared.words.Format.{Format}

pick : {A : Type 0} (b : Bool) (x y : A) → b ≡ true → (if b then x else y) ≡ x
pick b x y e = rw e refl

skip : {A : Type 0} (b : Bool) (x y : A) → b ≡ false → (if b then x else y) ≡ y
skip b x y e = rw e refl

-- what the words that are passed ask for
abbrev pub asked_so_far : Option (List ℕ) → Format → Bool → Bool → FrontWords
asked_so_far root from fix broken =
    record { root = root; from = from; fix = fix; broken = broken; options = [] }

-- two words that are taken, and those after them
pub words_left : {A : Type 0} (bytes : A → List ℕ) (rest more after : List A) (word value : A) → rest ≡ word ∷ more
    → more ≡ value ∷ after → map bytes rest ≡ bytes word ∷ (bytes value ∷ map bytes after)
words_left bytes rest more after word value is next = ap (map bytes) (is ∙ ap (λ m. word ∷ m) next)

module _ (now : FrontWords) (rest : List (List ℕ)) (word : List ℕ) where
  abbrev asked : List (List ℕ) → Option FrontWords
  asked words = asked_from now words

  pub fix_passed : (more : List (List ℕ)) → rest ≡ word ∷ more → bytes_eq word (codes "--fix") ≡ true
      → asked_from (with_fix now) more ≡ asked rest
  fix_passed [] is e = sym (ap asked is ∙ pick _ _ _ e)
  fix_passed (value ∷ after) is e = sym (ap asked is ∙ pick _ _ _ e)

  module _ (f : bytes_eq word (codes "--fix") ≡ false) where
    pub broken_passed : (more : List (List ℕ)) → rest ≡ word ∷ more → bytes_eq word (codes "--broken-code") ≡ true
        → asked_from (with_broken now) more ≡ asked rest
    broken_passed [] is e = sym (ap asked is ∙ skip _ _ _ f ∙ pick _ _ _ e)
    broken_passed (value ∷ after) is e = sym (ap asked is ∙ skip _ _ _ f ∙ pick _ _ _ e)

    module _ (b : bytes_eq word (codes "--broken-code") ≡ false) where
      pub root_passed : (value folder : List ℕ) (after : List (List ℕ)) → rest ≡ word ∷ (value ∷ after)
          → bytes_eq word (codes "--root") ≡ true → folder_named value ≡ Some folder
          → asked_from (with_root now folder) after ≡ asked rest
      root_passed value folder after is e r =
          sym (ap asked is ∙ skip _ _ _ f ∙ skip _ _ _ b ∙ pick _ _ _ e
          ∙ ap (option_and_then (λ it. asked_from (with_root now it) after)) r)

      pub root_other : (value : List ℕ) (after : List (List ℕ)) → rest ≡ word ∷ (value ∷ after)
          → bytes_eq word (codes "--root") ≡ true → folder_named value ≡ None → None ≡ asked rest
      root_other value after is e r =
          sym (ap asked is ∙ skip _ _ _ f ∙ skip _ _ _ b ∙ pick _ _ _ e
          ∙ ap (option_and_then (λ it. asked_from (with_root now it) after)) r)

      pub from_passed : (value : List ℕ) (after : List (List ℕ)) (format : Format) → rest ≡ word ∷ (value ∷ after)
          → bytes_eq word (codes "--root") ≡ false → bytes_eq word (codes "--from") ≡ true
          → format_named value ≡ Some format → asked_from (with_from now format) after ≡ asked rest
      from_passed value after format is n e r =
          sym (ap asked is ∙ skip _ _ _ f ∙ skip _ _ _ b ∙ skip _ _ _ n ∙ pick _ _ _ e
          ∙ ap (option_and_then (λ it. asked_from (with_from now it) after)) r)

      pub from_other : (value : List ℕ) (after : List (List ℕ)) → rest ≡ word ∷ (value ∷ after)
          → bytes_eq word (codes "--root") ≡ false → bytes_eq word (codes "--from") ≡ true
          → format_named value ≡ None → None ≡ asked rest
      from_other value after is n e r =
          sym (ap asked is ∙ skip _ _ _ f ∙ skip _ _ _ b ∙ skip _ _ _ n ∙ pick _ _ _ e
          ∙ ap (option_and_then (λ it. asked_from (with_from now it) after)) r)

      pub lone : rest ≡ word ∷ [] → is_front word ≡ true → None ≡ asked rest
      lone is front = sym (ap asked is ∙ skip _ _ _ f ∙ skip _ _ _ b ∙ pick _ _ _ front)

      pub others : (more : List (List ℕ)) → rest ≡ word ∷ more → bytes_eq word (codes "--root") ≡ false
          → bytes_eq word (codes "--from") ≡ false → Some (with_options now rest) ≡ asked rest
      others [] is n e =
          ap (λ options. Some (with_options now options)) is
          ∙ sym (ap asked is ∙ skip _ _ _ f ∙ skip _ _ _ b
          ∙ skip _ _ _ (ap (λ x. x || bytes_eq word (codes "--from")) n ∙ e))
      others (value ∷ after) is n e =
          ap (λ options. Some (with_options now options)) is
          ∙ sym (ap asked is ∙ skip _ _ _ f ∙ skip _ _ _ b ∙ skip _ _ _ n ∙ skip _ _ _ e)

pub none_left : (now : FrontWords) (rest : List (List ℕ)) → rest ≡ []
    → Some (with_options now rest) ≡ asked_from now rest
none_left now rest is = ap (λ o. Some (with_options now o)) is ∙ sym (ap (asked_from now) is)
