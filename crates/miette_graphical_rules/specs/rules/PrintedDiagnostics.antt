-- The diagnostics that a report prints, each with its effective source.
use Rattle.std.specs.Prelude.{Bool, ◌&&◌, if◌then◌else◌, List, [], ◌∷◌, ◌++◌, Option}
use Rattle.miette_tree.specs.rules.Diagnosis.{Diagnosis}
use Rattle.miette_protocol.specs.rules.Reading.{Source}
use Rattle.miette_tree.specs.rules.Tree.{effective, Tree, tree, Cause, diagnostic, texts, Trees, no_trees, more_trees}
use Rattle.miette_graphical_rules.specs.rules.GraphicalSettings.{GraphicalSettings}
use Rattle.miette_graphical_rules.specs.rules.Sources.{HoldsOfSources, LabelledSource, drawn_with, reads_for}
use Rattle.miette_graphical_rules.specs.rules.Sources.{sources_of}
use Rattle.miette_graphical_rules.specs.rules.Sources.{sources_read}
use Rattle.std.specs.List.{list_all}

-- a printed diagnostic
pub record PrintedDiagnostic : Type 0 where
  pub source : Option Source
  pub meaning : Diagnosis

abbrev pub over : Option Source → Diagnosis → PrintedDiagnostic
over source m = record { source = source; meaning = m }

abbrev mutual
  -- The causes of a report with this effective source, each with its related reports. They are over that source unless
  -- they have their own. The flag says whether related reports are nested.
  pub printed_causes : Bool → Option Source → Cause → List PrintedDiagnostic
  printed_causes nested inherited (texts ts) = []
  printed_causes nested inherited (diagnostic (tree m own c r)) =
      (over (effective own inherited) m ∷ printed_related nested (effective own inherited) r)
      ++ printed_causes nested inherited c

  -- Related reports, each with its related reports, and with its causes if it isn't nested.
  pub printed_related : Bool → Option Source → Trees → List PrintedDiagnostic
  printed_related nested inherited no_trees = []
  printed_related nested inherited (more_trees (tree m own c r) ts) =
      (over (effective own inherited) m ∷ ((if nested then [] else printed_causes nested (effective own inherited) c)
      ++ printed_related nested (effective own inherited) r))
      ++ printed_related nested inherited ts

-- the diagnostics of a report: its own, its causes if the cause chain is on, and the related ones
abbrev pub diagnostics_of : GraphicalSettings → Tree → List PrintedDiagnostic
diagnostics_of s (tree m own c r) =
    over own m ∷ ((if s.cause_chain then printed_causes s.related_as_nested own c else [])
    ++ printed_related s.related_as_nested own r)

-- a statement holds for each source of a printed diagnostic, with the labels over it and the settings they are drawn in
abbrev pub HoldsOfPrinted : (GraphicalSettings → LabelledSource → Type 0) → GraphicalSettings → PrintedDiagnostic
    → Type 0
HoldsOfPrinted holds s p = HoldsOfSources holds (drawn_with p.meaning.snippets s) (sources_of p.source p.meaning)

-- whether every source always reads that a printed diagnostic's labels are read from, and also the one its fixes are
-- read from
abbrev pub reads_labels : PrintedDiagnostic → Bool
reads_labels p = sources_read (sources_of p.source p.meaning)

abbrev pub reads_all : PrintedDiagnostic → Bool
reads_all p = reads_labels p && reads_for p.source p.meaning.fixes

-- whether this holds for all these diagnostics
abbrev pub labels_read : List PrintedDiagnostic → Bool
labels_read ps = list_all reads_labels ps

abbrev pub all_read : List PrintedDiagnostic → Bool
all_read ps = list_all reads_all ps
