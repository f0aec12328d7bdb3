-- How many context lines labels and groups are read with.
use Rattle.std.specs.Prelude.{ℕ, ◌≤◌, max, List, Bool, is_some, unwrap_or, if◌then◌else◌}
use Rattle.std.specs.List.{list_any, AllByRecursion}
use Rattle.miette_protocol.specs.views.Meaning.{Label}
use Rattle.miette_protocol.specs.rules.Reading.{Source, Contents}
use Rattle.miette_labels.specs.rules.Contexts.{contents}

-- whether a label has its own number of context lines
abbrev pub has_own_context : List Label → Bool
has_own_context labels = list_any (λ label. is_some label.context) labels

-- The number of context lines of a label: its own, or else the common number, which is at least 1 if a label has its
-- own.
abbrev pub label_context : ℕ → List Label → Label → ℕ
label_context context labels label = unwrap_or label.context (if has_own_context labels then max 1 context else context)

-- each label has at least one context line
abbrev pub HaveContext : ℕ → List Label → Type 0
HaveContext context labels = AllByRecursion (λ label. 1 ≤ label_context context labels label) labels

-- what the read of a label returns
abbrev pub contents_around : ℕ → Source → List Label → Label → Contents
contents_around context source labels label = contents (label_context context labels label) source label.span

-- How many context lines the span of a group is read with: none if a label has its own number, because the span then
-- covers the group's bytes.
abbrev pub group_context : ℕ → List Label → ℕ
group_context context labels = if has_own_context labels then 0 else context
