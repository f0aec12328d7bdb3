-- JSON values, values behind references, and texts.
use Rattle.std.specs.Prelude.{ℕ, List, map}
use Rattle.serde_json.specs.Data.{Data}
use Rattle.serde_json.specs.View.{view}
use Rattle.serde_json.specs.declared.value.Value.{Value}
use denote.Ref.{Bor}

abbrev pub viewed : List Value → List Data
viewed values = map view values

abbrev pub values_behind : List (Bor Value) → List Data
values_behind values = map (λ v. view v.now) values

abbrev pub texts : List (Bor (List ℕ)) → List (List ℕ)
texts xs = map (λ x. x.now) xs
