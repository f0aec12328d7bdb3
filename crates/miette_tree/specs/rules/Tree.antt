-- The value of a tree of reports.
use Rattle.std.specs.Prelude.{ℕ, List, [], ◌∷◌, ◌++◌, Option, Some, None, unwrap_or}
use Rattle.miette_fixes.specs.rules.Edits.{FixModel}
use Rattle.miette_protocol.specs.rules.Reading.{Source}
use Rattle.miette_tree.specs.rules.Diagnosis.{Diagnosis, Section}

mutual
  -- a report: its own parts, its source, its cause, and its related reports
  pub data Tree : Type 0 where
    tree : Diagnosis → Option Source → Cause → Trees → Tree

  -- a report, or a list of texts; an empty list is no cause
  pub data Cause : Type 0 where
    diagnostic : Tree → Cause
    texts : List (List ℕ) → Cause

  pub data Trees : Type 0 where
    no_trees : Trees
    more_trees : Tree → Trees → Trees

abbrev pub trees : List Tree → Trees
trees [] = no_trees
trees (t ∷ ts) = more_trees t (trees ts)

-- ---- the parts of a tree

abbrev pub head : Tree → Diagnosis
head (tree m s c r) = m

abbrev pub source_of : Tree → Option Source
source_of (tree m s c r) = s

abbrev pub cause_of : Tree → Cause
cause_of (tree m s c r) = c

abbrev pub related_of : Tree → Trees
related_of (tree m s c r) = r

-- the message, and the messages or texts of the causes
abbrev mutual
  pub chain_of : Tree → List (List ℕ)
  chain_of (tree m s c r) = m.message ∷ causes_of c

  pub causes_of : Cause → List (List ℕ)
  causes_of (diagnostic t) = chain_of t
  causes_of (texts ts) = ts

-- the source that a report is printed with: its own, or else the inherited one
abbrev pub effective : Option Source → Option Source → Option Source
effective (Some own) inherited = Some own
effective None inherited = inherited

-- ---- the results of calls

-- a report that has nothing but these parts
abbrev pub single_report : Diagnosis → Tree
single_report m = tree m None (texts []) no_trees

-- puts a message in front: the old chain becomes the causes, everything else is unchanged
abbrev pub wrapped_tree : List ℕ → Tree → Tree
wrapped_tree message t = tree (record (head t) { message = message }) (source_of t) (texts (chain_of t)) (related_of t)

-- sets the source if there is none
abbrev pub with_source : Source → Tree → Tree
with_source new t = tree (head t) (Some (unwrap_or (source_of t) new)) (cause_of t) (related_of t)

-- replaces the cause
abbrev pub with_cause : Cause → Tree → Tree
with_cause new t = tree (head t) (source_of t) new (related_of t)

-- replaces the related reports
abbrev pub with_related : Trees → Tree → Tree
with_related new t = tree (head t) (source_of t) (cause_of t) new

-- appends labels over a further source
abbrev pub with_snippets : Section → Tree → Tree
with_snippets new t = tree (record (head t) { snippets = (head t).snippets ++ new ∷ [] }) (source_of t) (cause_of t)
    (related_of t)

-- replaces the labels over further sources
abbrev pub with_all_snippets : List Section → Tree → Tree
with_all_snippets new t = tree (record (head t) { snippets = new }) (source_of t) (cause_of t) (related_of t)

-- appends a fix, or replaces all fixes
abbrev pub with_fix : FixModel → Tree → Tree
with_fix new t = tree (record (head t) { fixes = (head t).fixes ++ new ∷ [] }) (source_of t) (cause_of t) (related_of t)

abbrev pub with_fixes : List FixModel → Tree → Tree
with_fixes new t = tree (record (head t) { fixes = new }) (source_of t) (cause_of t) (related_of t)
