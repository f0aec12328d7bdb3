-- What a row says, and what holds of each report of a value.
use Rattle.std.proofs.Common.{◌≡◌, ℕ, zero, suc, ◌<◌, List, [], ◌∷◌, Option, Some, None, length, get_or, map, All}
use Rattle.std.proofs.Common.{arith, sym, ap, subst}
use Rattle.std.specs.Prelude.{IsUtf8, option_and_then}
use Rattle.serde_json.specs.Data.{Data}
use Rattle.miette_protocol.specs.rules.Reading.{Source}
use Rattle.miette_tree.specs.rules.Tree.{Tree}
use Rattle.miette_show.specs.rules.ShownRow.{row_failure, row_trees, value_trees}
use Rattle.miette_show.specs.rules.ValueKinds.{failure_of}
use Rattle.miette_show.specs.declared.words.Format.{Format}
use Rattle.miette_show_rows.specs.rules.Values.{read}

-- ---- what a row says

-- one that is no value says nothing
pub none_said : (from : Format) (files : List ℕ → Option Source) (row : List ℕ) → (IsUtf8 row → read row ≡ None)
    → IsUtf8 row → row_trees from files row ≡ None
none_said from files row none utf8 = ap (option_and_then (value_trees from files)) (none utf8)

pub says_of : (from : Format) (files : List ℕ → Option Source) (row : List ℕ) (d : Data) → read row ≡ Some d
    → row_trees from files row ≡ value_trees from files d
says_of from files row d is = ap (option_and_then (value_trees from files)) is

pub fails_of : (from : Format) (row : List ℕ) (d : Data) → read row ≡ Some d → row_failure from row ≡ failure_of from d
fails_of from row d is = ap (option_and_then (failure_of from)) is

-- ---- what holds of each report

pub item_holds : {X : Type 0} (P : Tree → Type 0) (tree : X → Tree) (xs : List X) (i : ℕ) (x : X) → i < length xs
    → x ≡ get_or xs i x → All P (map tree xs) → P (tree x)
item_holds P tree [] i x h is all = absurd (omega (arith, h))
item_holds P tree (y ∷ ys) zero x h is all =
    subst (λ z. P (tree z)) (sym is) (all 0 (tree x) (omega arith))
item_holds P tree (y ∷ ys) (suc i) x h is all =
    item_holds P tree ys i x (omega (arith, h)) is (λ j d k. all (suc j) d (omega (arith, k)))
