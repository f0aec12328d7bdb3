-- What a handler appends.
use Rattle.std.specs.Prelude.{◌≡◌, ℕ, List, ◌++◌}

-- `new` is `old` followed by one of these texts
pub record AppendsOne (given : List ℕ → Type 0) (old new : List ℕ) : Type 0 where
  pub text : List ℕ
  pub is_given : given text
  pub appended : new ≡ old ++ text
