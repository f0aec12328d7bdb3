-- Whether the sources of a report can fail to read, and whether its labels are in bounds.
use Rattle.std.specs.Prelude.{◌≡◌, Bool, true, false, ◌&&◌, ◌||◌, List, Option, Some, None, IfSome, ⊤}
use Rattle.std.specs.List.{All, list_all}
use Rattle.miette_lines.specs.rules.Lists.{is_nil}
use Rattle.miette_protocol.specs.views.Meaning.{Label}
use Rattle.miette_protocol.specs.rules.Reading.{Source, is_in_bounds}
use Rattle.miette_tree.specs.rules.Diagnosis.{Section}
use Rattle.miette_tree.specs.rules.Tree.{Tree, tree, Cause, diagnostic, texts, Trees, no_trees, more_trees, effective}
use Rattle.miette_tree.specs.rules.DiagnosticParts.{given_labels}

-- No source in a report fails to read: neither its own, nor those of its causes, related reports and further snippets.
abbrev mutual
  pub AlwaysReads : Tree → Type 0
  AlwaysReads (tree m s c r) = IfSome s (λ own. own.always_reads ≡ true) × CauseAlwaysReads c × AllAlwaysRead r
      × All (λ section. section.source.always_reads ≡ true) m.snippets

  pub CauseAlwaysReads : Cause → Type 0
  CauseAlwaysReads (diagnostic t) = AlwaysReads t
  CauseAlwaysReads (texts ts) = ⊤

  pub AllAlwaysRead : Trees → Type 0
  AllAlwaysRead no_trees = ⊤
  AllAlwaysRead (more_trees t ts) = AlwaysReads t × AllAlwaysRead ts

-- reading can fail only if the source doesn't always read
abbrev pub MayMeet : Option Source → Bool → Type 0
MayMeet None fault = fault ≡ false
MayMeet (Some source) fault = fault ≡ true → source.always_reads ≡ false

-- ---- tests of the labels of a report and its related reports

-- a test holds for each further source and its labels
abbrev pub further_pass : (Option Source → List Label → Bool) → List Section → Bool
further_pass test sections = list_all (λ section. test (Some section.source) section.labels) sections

-- A test holds for each diagnostic of a tree, with its effective source and labels, and for its further sources.
abbrev mutual
  pub report_passes : (Option Source → List Label → Bool) → Option Source → Tree → Bool
  report_passes test inherited (tree m own c r) = (test (effective own inherited) (given_labels m.labels)
      && reports_pass test (effective own inherited) r) && further_pass test m.snippets

  pub reports_pass : (Option Source → List Label → Bool) → Option Source → Trees → Bool
  reports_pass test inherited no_trees = true
  reports_pass test inherited (more_trees t ts) = report_passes test inherited t && reports_pass test inherited ts

-- the source always reads, or there is no label to read
abbrev pub always_reads : Option Source → List Label → Bool
always_reads None labels = true
always_reads (Some source) labels = is_nil labels || source.always_reads

-- the source always reads, and the labels are in bounds
abbrev pub accepts : Option Source → List Label → Bool
accepts None labels = true
accepts (Some source) labels = list_all (λ label. is_in_bounds source.bytes label.span) labels
    && (is_nil labels || source.always_reads)

-- every source that the report's labels are read from always reads
abbrev pub report_reads : Tree → Bool
report_reads t = report_passes always_reads None t

-- the same, and the labels are in bounds
abbrev pub report_in_bounds : Tree → Bool
report_in_bounds t = report_passes accepts None t
