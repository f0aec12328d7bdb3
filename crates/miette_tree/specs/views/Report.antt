-- The tree that a report represents.
use Rattle.std.specs.Prelude.{ℕ, ◌<◌, List, [], Option, Some, None, length, option_map, string_bytes, map, codes}
use Rattle.std.specs.Prelude.{unwrap_or}
use Rattle.miette_protocol.specs.views.Meaning.{Meaning}
use Rattle.miette_protocol.specs.rules.Reading.{Source}
use Rattle.miette_protocol.specs.rules.Texts.{render_text}
use Rattle.miette_protocol.specs.views.Diagnostic.{meaning_of, message_alone}
use Rattle.miette_fixes.specs.rules.Edits.{FixModel}
use Rattle.miette_tree.specs.rules.CauseTexts.{texts_in}
use Rattle.miette_tree.specs.rules.Diagnosis.{Diagnosis, Section}
use Rattle.miette_tree.specs.views.Attachments.{section_of, snippets_in, fixes_in}
use Rattle.miette_tree.specs.views.Owned.{kept_source}
use Rattle.miette_tree.specs.rules.Tree.{Tree, tree, Cause, diagnostic, texts, Trees, no_trees, trees}
use Rattle.miette_tree.specs.declared.innermost.Innermost.{Innermost}
use Rattle.miette_tree.specs.declared.innermost.Innermost.TheVariants.{Message, Built, Boxed, Unwritten, OutOfMemory}
use Rattle.miette_tree.specs.declared.tree.OwnedCause.{OwnedCause}
use Rattle.miette_tree.specs.declared.tree.OwnedCause.TheVariants as kept
use Rattle.miette_tree.specs.declared.tree.Cause as shown
use Rattle.miette_tree.specs.declared.tree.Cause.TheVariants as seen
use Rattle.miette_tree.specs.declared.tree.Report.{Report}
use Rattle.miette_tree.specs.declared.tree.Report.TheOpen.{Report-F}
use Rattle.miette_tree.specs.declared.tree.Report.TheFolds.{fold-Report}

-- the parts of the report of an allocation failure
abbrev pub out_of_memory_alone : Meaning
out_of_memory_alone = message_alone (codes "memory allocation failed")

abbrev pub innermost_meaning : {D : Type 0} → (D → Meaning) → Innermost D → Meaning
innermost_meaning means (Message text) = message_alone (string_bytes text)
innermost_meaning means (Built d) = meaning_of d
innermost_meaning means (Boxed d) = means d
innermost_meaning means (Unwritten error) = message_alone (render_text error)
innermost_meaning means OutOfMemory = out_of_memory_alone

-- adds the message that `wrap_err` put in front, if any, and what the report stores besides its diagnostic
abbrev pub diagnosis_of : Option (List ℕ) → Meaning → List Section → List FixModel → Diagnosis
diagnosis_of front m snippets fixes = record {
  message = unwrap_or front m.message;
  code = m.code;
  severity = m.severity;
  help = m.help;
  url = m.url;
  labels = m.labels;
  snippets = snippets;
  fixes = fixes;
}

-- a cause, with its report converted to a tree already
abbrev pub owned_cause : OwnedCause Tree → Cause
owned_cause kept.None = texts []
owned_cause (kept.Diagnostic b) = diagnostic b.value
owned_cause (kept.Texts list) = texts (texts_in list)

abbrev pub trees_from : Option (List Tree) → Trees
trees_from None = no_trees
trees_from (Some ts) = trees ts

-- one level of a report, with the reports inside converted to trees already
abbrev pub tree_step : {D S : Type 0} → (D → Meaning) → (S → Source) → Report-F D S Tree → Tree
tree_step means is r =
    tree
    (diagnosis_of (option_map (λ b. string_bytes b.value) r.front) (innermost_meaning means r.innermost)
    (map (section_of is) (snippets_in r.attached)) (fixes_in r.attached))
    (option_map (kept_source is) r.source)
    (owned_cause r.cause)
    (trees_from (option_map (λ v. v.items) r.related))

-- the whole tree, given what boxed diagnostics and sources represent
abbrev pub tree_of : {D S : Type 0} → (D → Meaning) → (S → Source) → Report D S → Tree
tree_of {D} {S} means is = fold-Report D S Tree (tree_step means is)

-- the cause that the getter returns
abbrev pub cause_view : {D S : Type 0} → (D → Meaning) → (S → Source) → shown.Cause D S → Cause
cause_view means is seen.None = texts []
cause_view means is (seen.Diagnostic r) = diagnostic (tree_of means is r.now)
cause_view means is (seen.Texts list) = texts (map string_bytes list.now)

-- the getter returns texts only if there is at least one
abbrev pub IsNoEmptyList : {D S : Type 0} → shown.Cause D S → Type 0
IsNoEmptyList seen.None = Unit {0}
IsNoEmptyList (seen.Diagnostic r) = Unit {0}
IsNoEmptyList (seen.Texts list) = 0 < length list.now
