-- The rows of groups under answers in which nothing fails.
use Rattle.std.proofs.Common.{◌≡◌, ℕ, Bool, ◌||◌, if◌then◌else◌, List, [], ◌∷◌, refl, ap, ap₂, ◌∙◌, Some, None, codes}
use Rattle.std.proofs.Common.{drop}
use Rattle.miette_protocol.specs.views.Meaning.{Label}
use Rattle.miette_protocol.specs.rules.Reading.{Source, is_in_bounds}
use Rattle.miette_labels.specs.rules.Answers.{Highlight, NoneFails, AlwaysReads}
use Rattle.miette_snippet_rules.specs.rules.FoldedLabels.{extents_of_labels}
use Rattle.miette_snippet_rules.specs.rules.SnippetSettings as snippets
use Rattle.miette_labels.specs.rules.Groups.{first_refusal, groups_of}
use Rattle.miette_snippet_rules.specs.rules.SnippetLayout.{rows_of_groups, settings_around, all_snippets}
use Rattle.miette_graphical_rules.specs.rules.Answers.{SourceAnswer, pieces_listed}
use Rattle.miette_labels.proofs.NoFailures.{next_none, later_none, some_none, none_unread, grouped_none}

pub refusal_none : (bytes : List ℕ) (fails : List Bool) (labels : List Label) → NoneFails fails
    → first_refusal bytes fails labels ≡ first_refusal bytes [] labels
refusal_none bytes fails [] h = refl
refusal_none bytes fails (label ∷ labels) h =
    ap (λ b. if b then Some (record { label = label; name = codes "IoError" }) else if is_in_bounds bytes label.span
    then
    first_refusal bytes (drop 1 fails) labels
    else Some (record { label = label; name = codes "OutOfBounds" })) (next_none fails h)
    ∙ ap (λ r. if is_in_bounds bytes label.span then r else Some (record { label = label; name = codes "OutOfBounds" }))
    (refusal_none bytes (drop 1 fails) labels (later_none fails h))

-- the rows of groups where nothing fails
pub groups_given : (s : snippets.SnippetSettings) (source : Source) (labels : List Label) (a : SourceAnswer) →
    AlwaysReads a →
    rows_of_groups s source labels a (groups_of s.layout.context_lines source a.join_fails labels)
    ≡ Some (all_snippets (settings_around s labels) (extents_of_labels s.layout.label_lines s.layout.context_lines
    source
    labels) source labels
    a.pieces (groups_of s.layout.context_lines source [] labels))
groups_given s source labels a h =
    ap (λ g. rows_of_groups s source labels a g) (grouped_none s.layout.context_lines source a.join_fails labels
    h.joins)
    ∙ ap₂ (λ x y. if x || y then None else Some (all_snippets (settings_around s labels)
    (extents_of_labels s.layout.label_lines s.layout.context_lines source labels) source labels a.pieces
    (groups_of s.layout.context_lines source [] labels)))
    (none_unread s.layout.context_lines source a.join_fails labels h.joins)
    (some_none a.place_fails (groups_of s.layout.context_lines source [] labels) h.places)

pub none_listed : (pieces : List (List (List Highlight))) → AlwaysReads (pieces_listed pieces)
none_listed pieces = record { end = refl; labels = tt; joins = tt; places = tt }
