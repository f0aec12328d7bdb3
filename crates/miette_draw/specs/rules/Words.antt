-- The arguments of `draw`.
use Rattle.std.specs.Prelude.{◌≡◌, ℕ, List, [], ◌∷◌, Some}
use Rattle.miette_devices.specs.rules.Words.{IsReadAs}

-- the arguments: the source's name, the label's offset, length and text, and the report's message
pub record DrawRequest : Type 0 where
  pub name : List ℕ
  pub offset : ℕ
  pub length : ℕ
  pub label : List ℕ
  pub message : List ℕ

-- five arguments; the second and the third are numbers
pub record AreDrawWords (words : List (List ℕ)) (request : DrawRequest) : Type 0 where
  pub offset_word : List ℕ
  pub length_word : List ℕ
  pub five : words ≡ request.name ∷ offset_word ∷ length_word ∷ request.label ∷ request.message ∷ []
  pub offset_is : IsReadAs offset_word (Some request.offset)
  pub length_is : IsReadAs length_word (Some request.length)

-- the arguments are not those of `draw`
abbrev pub IsNoDrawCall : List (List ℕ) → Type 0
IsNoDrawCall words = (request : DrawRequest) → ¬ (AreDrawWords words request)
