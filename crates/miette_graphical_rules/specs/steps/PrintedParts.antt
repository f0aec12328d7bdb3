-- The diagnostics that the parts of a report print.
use Rattle.std.specs.Prelude.{Bool, if◌then◌else◌, List, [], ◌∷◌, ◌++◌, Option}
use Rattle.miette_protocol.specs.rules.Reading.{Source}
use Rattle.miette_tree.specs.rules.Tree.{Tree, tree}
use Rattle.miette_graphical_rules.specs.rules.PrintedDiagnostics.{PrintedDiagnostic, over, printed_causes}
use Rattle.miette_graphical_rules.specs.rules.PrintedDiagnostics.{printed_related}

-- a report inside another one, which shows no causes, over its effective source; and a sibling
abbrev pub printed_inner : Bool → Option Source → Tree → List PrintedDiagnostic
printed_inner nested source (tree m own c r) = over source m ∷ printed_related nested source r

abbrev pub printed_sibling : Bool → Option Source → Tree → List PrintedDiagnostic
printed_sibling nested source (tree m own c r) =
    over source m ∷ (printed_causes nested source c ++ printed_related nested source r)

abbrev pub printed_one : Bool → Option Source → Tree → List PrintedDiagnostic
printed_one nested source t = if nested then printed_inner nested source t else printed_sibling nested source t

-- the causes of the outermost report, if the cause chain is on
abbrev pub printed_root_causes : Bool → Bool → Tree → List PrintedDiagnostic
printed_root_causes chain nested (tree m own c r) = if chain then printed_causes nested own c else []
