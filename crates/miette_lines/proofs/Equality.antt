-- What `==` says of options and texts.
use Rattle.std.proofs.Common.{◌≡◌, Bool, Global, Option, Some, None, String, refl, sym, ap, ◌∙◌, is_some}
use Rattle.std.proofs.lemmas.Bool.{true≢false, false≢true}
use Rattle.std.proofs.lemmas.Iterator.Adapters.{option_map_id}
use Rattle.std.proofs.lemmas.Option.{same_Some}
use Rattle.std.proofs.lemmas.Slice.Eq.{slice_eq-Decides}
use Rattle.std.specs.Prelude.{string_bytes}
use Rattle.std.specs.Bool.{Decides}
use Rattle.std.specs.Cmp.{unsigned_Decides}
use Rattle.std.specs.Option.{option_eq, option_map}
use Rattle.std.specs.String.{string_eq}

-- of two options, seen through a function
pub lifted : {A B : Type 0} (f : A → B) (E : A → A → Bool) → ((x y : A) → Decides (E x y) (f x ≡ f y))
    → (o p : Option A)
    → Decides (option_eq E o p) (option_map f o ≡ option_map f p)
lifted f E d None None = (λ _. refl, λ _. refl)
lifted f E d None (Some y) = (λ h. absurd (false≢true h), λ e. absurd (false≢true (ap is_some e)))
lifted f E d (Some x) None = (λ h. absurd (false≢true h), λ e. absurd (true≢false (ap is_some e)))
lifted f E d (Some x) (Some y) = (λ h. ap Some ((d x y).0 h), λ e. (d x y).1 (same_Some (f x) (f y) e))

-- of two options
pub options : {A : Type 0} (E : A → A → Bool) → ((x y : A) → Decides (E x y) (x ≡ y)) → (o p : Option A)
    → Decides (option_eq E o p) (o ≡ p)
options E d o p =
    let same = lifted (λ x. x) E d o p in
    (λ h. sym (option_map_id o) ∙ same.0 h ∙ option_map_id p, λ e. same.1 (ap (option_map (λ x. x)) e))

-- of two texts
pub texts : (x y : String Global) → Decides (string_eq x y) (string_bytes x ≡ string_bytes y)
texts x y = slice_eq-Decides unsigned_Decides (string_bytes x) (string_bytes y) (string_eq x y) refl
