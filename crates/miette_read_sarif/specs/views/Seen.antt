-- The values behind lists of references.
use Rattle.std.specs.Global.{Global}
use Rattle.std.specs.Prelude.{List, Vec, map}
use Rattle.serde_json.specs.Data.{Data}
use Rattle.serde_json.specs.declared.value.Value.{Value}
use Rattle.miette_read.specs.views.Values.{values_behind}
use denote.Ref.{Bor}

abbrev pub value_lists_behind : List (Vec (Bor Value) Global) → List (List Data)
value_lists_behind lists = map (λ (list : Vec (Bor Value) Global). values_behind list.items) lists
