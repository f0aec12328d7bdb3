-- Texts that are told at places, that are help, and those of proposals, stand in the report.
use Rattle.std.proofs.Common.{◌≡◌, ℕ, List, Option, Some, None, sym, subst, ◌∙◌, inl, inr}
use Rattle.miette_protocol.specs.rules.Reading.{Source}
use Rattle.miette_read.specs.rules.Kept.{IsInLabel, IsInSection, IsKept, IsPart, IsPartOf}
use Rattle.miette_read.specs.rules.Places.{Annotation}
use Rattle.miette_read.specs.rules.SuggestedFixes.{FileEdit, Suggestion}
use Rattle.miette_read.specs.rules.Reports.{MessageParts, report_tree}
use Rattle.miette_read.specs.rules.AnnotationLabels.{label_lists}
use Rattle.miette_read.proofs.Kept.{report_keeps}
use Rattle.miette_tree.specs.rules.Diagnosis.{Section}
use Rattle.miette_tree.specs.rules.DiagnosticParts.{given_labels}
use Rattle.miette_tree.specs.rules.Tree.{Tree, Trees, no_trees, more_trees, causes_of, cause_of, head, related_of}
use Rattle.miette_read.specs.laws.Applying.{IsFound}
use Rattle.miette_read.specs.laws.Proposed.{AnyOf, HasEdit, IsAdvice, IsOfFile, IsSuggested}
use Rattle.miette_read.specs.laws.Shown.{IsRowIn}
use Rattle.miette_read.specs.laws.MessageTexts.{IsFixOf, IsMessageOf, IsInReport}
use Rattle.miette_read.proofs.Holding.{Has, all_each, any_each, has_found, it_is_there}
use Rattle.miette_read.proofs.Made.{report_says}
use Rattle.miette_read.proofs.KeptOffers.{AreSound}
use Rattle.miette_read.proofs.Proposed.{edit_proposed}
use Rattle.miette_read.proofs.KeptRows.{part_within}

-- ---- a part of a row that is kept

module _ (text row : List ℕ) (h : IsPart text row) where
  label_keeps : (o : Option (List ℕ)) → IsPartOf row o → IsPartOf text o
  label_keeps None k = absurd k
  label_keeps (Some whole) k = part_within text row whole h k

  section_keeps : (section : Section) → IsInSection row section → IsInSection text section
  section_keeps section k =
      any_each (IsInLabel row) (IsInLabel text) (λ l. label_keeps l.text) section.labels k

  part_kept : (t : Tree) → IsKept t row → IsKept t text
  part_kept t (inl k) =
      inl (any_each (IsInLabel row) (IsInLabel text) (λ l. label_keeps l.text) (given_labels (head t).labels) k)
  part_kept t (inr (inl k)) =
      inr (inl (any_each (IsInSection row) (IsInSection text) section_keeps (head t).snippets k))
  part_kept t (inr (inr k)) =
      inr (inr (any_each (IsPart row) (IsPart text) (λ whole. part_within text row whole h)
      (causes_of (cause_of t)) k))

-- ---- what is said

-- a text is a part of a row that is told
abbrev pub Says : List Annotation → List ℕ → Type 0
Says ts text = Has (λ (t : Annotation). Has (IsPart text) t.rows) ts

module _ (files : List ℕ → Option Source) (said : MessageParts) (told : List Annotation) (offers : List Suggestion)
    (text : List ℕ) where
  abbrev Here : Type 0
  Here = IsInReport (report_tree said (label_lists files told) offers) text

  pub told_stands : Says told text → Here
  told_stands h =
      let it = has_found (λ (t : Annotation). Has (IsPart text) t.rows) told h in
      let row = has_found (IsPart text) it.0.rows it.2 in
      inl (part_kept text row.0 row.2 (report_tree said (label_lists files told) offers)
      (report_keeps files said told offers it.0 row.0 it.1 row.1))

  pub help_stands : IsRowIn text said.help → Here
  help_stands h =
      inr (inl (subst (IsRowIn text) (sym (report_says said (label_lists files told) offers).3) h))

  advised : (offer : Suggestion) (e : FileEdit) → offer.message ≡ text → (ts : Trees) → AnyOf (IsAdvice offer e) ts
      → AnyOf (IsMessageOf text) ts
  advised offer e is no_trees h = absurd h
  advised offer e is (more_trees t ts) (inl it) = inl (it.0 ∙ is)
  advised offer e is (more_trees t ts) (inr h) = inr (advised offer e is ts h)

  proposed_stands : (offer : Suggestion) (e : FileEdit) → offer.message ≡ text
      → IsSuggested offer e (report_tree said (label_lists files told) offers) → Here
  proposed_stands offer e is (inl own) =
      inr (inr (inl (any_each (HasEdit offer.message offer.applicability e.edit) (IsFixOf text)
      (λ fix it. it.0 ∙ is) (head (report_tree said (label_lists files told) offers)).fixes own.1)))
  proposed_stands offer e is (inr advice) =
      inr (inr (inr (advised offer e is (related_of (report_tree said (label_lists files told) offers)) advice)))

  abbrev pub IsOffered : Suggestion → Type 0
  IsOffered offer = (offer.message ≡ text) × AreSound files offer.edits

  pub offered_stands : Has IsOffered offers → Here
  offered_stands h =
      let it = has_found IsOffered offers h in
      let edit = it.2.1.1 in
      proposed_stands it.0 edit.0 it.2.0
      (edit_proposed files said told offers it.0 edit.0 it.1
      (all_each (IsFound files) (IsOfFile files) (λ e found. found.0) it.0.edits it.2.1.0)
      (it_is_there it.0.edits edit.0 edit.1))
