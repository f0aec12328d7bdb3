-- Which group a label belongs to, if labels have their own numbers of context lines.
use Rattle.std.specs.Prelude.{ℕ, ◌≡◌, List, length, Bool, ◌&&◌, nat_le, true}
use Rattle.std.specs.List.{filter}
use Rattle.miette_protocol.specs.views.Meaning.{Label}
use Rattle.miette_protocol.specs.rules.Reading.{Span, Source}
use Rattle.miette_labels.specs.rules.Contexts.{end_of_span}
use Rattle.miette_labels.specs.rules.Groups.{own_groups, label_data_span}
use Rattle.miette_snippet_rules.specs.rules.SnippetLayout.{belongs_to}

-- whether a group's bytes contain the data
abbrev pub holds : Span → Span → Bool
holds group part = nat_le group.offset part.offset && nat_le (end_of_span part) (end_of_span group)

-- the groups that contain the data of a label's read
abbrev pub groups_with : ℕ → Source → List Label → Label → List Span
groups_with context source labels label = filter (λ group. holds group (label_data_span context source labels label))
    (own_groups context source labels)

-- there is exactly one such group, and the label belongs to it
pub record HasOneGroup (context : ℕ) (source : Source) (labels : List Label) (label : Label) : Type 0 where
  pub one : length (groups_with context source labels label) ≡ 1
  pub own : filter (λ group. belongs_to true group label) (own_groups context source labels)
      ≡ groups_with context source labels label
