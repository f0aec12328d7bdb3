-- What holds of each report that is made of a value's messages holds of all its reports.
use Rattle.std.proofs.Common.{◌≡◌, List, [], Option, Some, None, All, IfOk, IfSome, Ok, Err, Result, map, option_map}
use Rattle.std.proofs.Common.{subst}
use Rattle.std.specs.Prelude.{option_and_then}
use Rattle.std.specs.List.{list_all}
use Rattle.std.proofs.lemmas.List.Elements.{All-nil, All-cons}
use Rattle.serde_json.specs.Data.{Data}
use Rattle.miette_tree.specs.rules.Tree.{Tree}
use Rattle.miette_read.specs.rules.MessageLists.{all_trees, has_message}
use Rattle.miette_read.specs.rules.RustcReport.{maybe_tree}
use Rattle.miette_read.proofs.ReportsRead.{each_holds, either}

-- of a list of messages
pub list_holds : (holds : Tree → Type 0) (tree : Data → Tree) → ((d : Data) → holds (tree d)) → (o : Option (List Data))
    → IfSome (option_and_then (all_trees tree) o) (All holds)
list_holds holds tree each None = tt
list_holds holds tree each (Some ds) =
    either (λ o. IfSome o (All holds)) (list_all has_message ds) (Some (map tree ds)) None
    (each_holds holds tree each ds) tt

-- of a row of rustc
pub row_hold : (holds : Tree → Type 0) (o : Option (Option Tree)) → IfSome o (λ row. IfSome row holds)
    → IfSome (option_map maybe_tree o) (All holds)
row_hold holds None h = tt
row_hold holds (Some None) h = All-nil holds
row_hold holds (Some (Some t)) h = All-cons holds t [] h (All-nil holds)

some_hold : (holds : Tree → Type 0) (o : Option (List Tree)) (ts : List Tree) → IfSome o (All holds) → o ≡ Some ts
    → All holds ts
some_hold holds None ts h e = absurd (cc)
some_hold holds (Some us) ts h e = (let same : us ≡ ts = cc in subst (All holds) same h)

-- of the reports that were made
pub reports_hold : {X Z E : Type 0} (holds : Tree → Type 0) (o : Option (List Tree)) (list : Z → List X)
    (tree : X → Tree) (r : Result Z E) → IfSome o (All holds) → IfOk r (λ it. o ≡ Some (map tree (list it)))
    → IfOk r (λ it. All holds (map tree (list it)))
reports_hold holds o list tree (Err e) h ok = tt
reports_hold holds o list tree (Ok it) h ok = some_hold holds o (map tree (list it)) h ok
