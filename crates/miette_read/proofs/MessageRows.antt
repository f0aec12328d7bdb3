-- What holds of the report of each of rustc's messages holds of what is made of a row of cargo's too.
use Rattle.std.proofs.Common.{ℕ, List, Option, Some, None, option_map, IfSome, codes}
use Rattle.std.specs.Prelude.{option_and_then}
use Rattle.serde_json.specs.Data.{Data}
use Rattle.miette_protocol.specs.rules.Reading.{Source}
use Rattle.miette_tree.specs.rules.Tree.{Tree}
use Rattle.miette_read.specs.rules.Members.{member_text}
use Rattle.miette_read.specs.rules.Rustc.{Build, build_of, package_folder}
use Rattle.miette_read.specs.rules.RustcReport.{rustc_message_in, is_closing_message, is_other_cargo_line}
use Rattle.miette_read.specs.rules.RustcReport.{is_other_rustc_line}
use Rattle.miette_read.specs.rules.RustcReport.{maybe_report, message_tree, row_tree}
use Rattle.miette_read.specs.rules.RustcReport.{rustc_tree}
use Rattle.miette_read.proofs.ReportsRead.{either}

abbrev MaybeHolds : (Tree → Type 0) → Option (Option Tree) → Type 0
MaybeHolds P o = IfSome o (λ t. IfSome t P)

module _ (P : Tree → Type 0) (build : Build) (each : (d : Data) → P (message_tree build d)) where
  maybe_holds : (d : Data) → IfSome (maybe_report build d) P
  maybe_holds d = either (λ o. IfSome o P) (is_closing_message d) None (Some (message_tree build d)) tt (each d)

  said_holds : (o : Option (List ℕ)) (d : Data) → MaybeHolds P (option_map (λ text. maybe_report build d) o)
  said_holds None d = tt
  said_holds (Some text) d = maybe_holds d

  held_holds : (o : Option Data) → MaybeHolds P (option_and_then (row_tree build) o)
  held_holds None = tt
  held_holds (Some d) =
      either (MaybeHolds P) (is_other_rustc_line d) (Some None) _ tt (said_holds (member_text (codes "message") d) d)

pub row_holds : (P : Tree → Type 0) (files : List ℕ → Option Source)
    → ((folder : Option (List ℕ)) (d : Data) → P (message_tree (record { files = files; folder = folder }) d))
    → (d : Data) → IfSome (rustc_tree files d) (λ t. IfSome t P)
row_holds P files each d =
    either (MaybeHolds P) (is_other_cargo_line d) (Some None) _ tt
    (held_holds P (build_of files d) (each (package_folder d)) (rustc_message_in d (member_text (codes "reason") d)))
