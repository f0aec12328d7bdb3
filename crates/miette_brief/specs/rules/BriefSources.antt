-- The sources that are read for a brief report. If these always read, there is exactly one text.
use Rattle.std.specs.Prelude.{◌≡◌, true, Option, IfSome, ⊤}
use Rattle.miette_protocol.specs.rules.Reading.{Source}
use Rattle.miette_tree.specs.rules.Tree.{Tree, tree, Cause, diagnostic, texts, Trees, no_trees, more_trees, effective}
use Rattle.miette_tree.specs.rules.DiagnosticParts.{given_labels}
use Rattle.miette_labels.specs.rules.Groups.{in_order}
use Rattle.miette_brief.specs.rules.Locations.{primary_span, source_of_span}

-- no source, or one that always reads
abbrev pub ReadsAlways : Option Source → Type 0
ReadsAlways source = IfSome source (λ s. s.always_reads ≡ true)

-- for each cause, the source of its primary label
abbrev mutual
  pub CauseSourcesRead : Option Source → Cause → Type 0
  CauseSourcesRead inherited (diagnostic t) = CausedSourcesRead inherited t
  CauseSourcesRead inherited (texts ts) = ⊤

  pub CausedSourcesRead : Option Source → Tree → Type 0
  CausedSourcesRead inherited (tree m own c r) =
      ReadsAlways
      (source_of_span (primary_span (effective own inherited) (in_order (given_labels m.labels)) m.snippets))
      × CauseSourcesRead inherited c

-- the report's own source, or the one it inherits; those of its causes; and those of its related reports
abbrev mutual
  pub BriefSourcesRead : Option Source → Tree → Type 0
  BriefSourcesRead inherited (tree m own c r) =
      ReadsAlways (effective own inherited) × CauseSourcesRead (effective own inherited) c
      × AllBriefSourcesRead (effective own inherited) r

  pub AllBriefSourcesRead : Option Source → Trees → Type 0
  AllBriefSourcesRead inherited no_trees = ⊤
  AllBriefSourcesRead inherited (more_trees t ts) = BriefSourcesRead inherited t × AllBriefSourcesRead inherited ts
