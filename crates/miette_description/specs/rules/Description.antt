-- The tree of reports that a JSON value describes, if it does. Unknown keys are ignored.
use Rattle.std.specs.Prelude.{ℕ, List, [], ◌∷◌, Option, Some, None, option_and_then, option_map, is_some, unwrap_or}
use Rattle.std.specs.Prelude.{if◌then◌else◌, codes}
use Rattle.std.specs.Ordering.{nat_cmp, match_ordering}
use Rattle.std.specs.Cmp.Lexicographic.{slice_cmp}
use Rattle.serde_json.specs.Data.{Data, null, boolean, number, string, array, object, Items, no_items, item, Members}
use Rattle.serde_json.specs.Data.{no_members, member}
use Rattle.serde_json.specs.Find.{as_null, as_str}
use Rattle.serde_json.specs.Read.{read}
use Rattle.serde_json.specs.Written.{has_float}
use Rattle.miette_protocol.specs.rules.Reading.{Source}
use Rattle.miette_tree.specs.rules.Diagnosis.{Diagnosis}
use Rattle.miette_tree.specs.rules.Tree.{Tree, tree, Cause, diagnostic, texts, Trees, no_trees, more_trees}
use Rattle.miette_tree.specs.rules.Tree.{wrapped_tree}
use Rattle.miette_description.specs.rules.Members.{and_then, at_key, optional_value, list_of, described_source}
use Rattle.miette_description.specs.rules.Members.{diagnosis_in}

-- a description or a list of texts, but not both
abbrev pub one_cause : Option Tree → Option (List (List ℕ)) → Option Cause
one_cause None ts = Some (texts (unwrap_or ts []))
one_cause (Some t) None = Some (diagnostic t)
one_cause (Some t) (Some ts) = None

abbrev pub wrapped_in : List (List ℕ) → Tree → Tree
wrapped_in [] t = t
wrapped_in (m ∷ ms) t = wrapped_in ms (wrapped_tree m t)

-- the report with these parts
abbrev pub tree_of_parts : Diagnosis → Option Source → Option Tree → Option (List (List ℕ)) → Option Trees →
    Option (List (List ℕ)) → Option Tree
tree_of_parts m s one several related contexts =
    option_map (λ c. wrapped_in (unwrap_or contexts []) (tree m s c (unwrap_or related no_trees)))
    (one_cause one several)

-- the report of a description whose `cause` and `related` are read already
abbrev pub report_from : Option (Option Tree) → Option (Option Trees) → Data → Option Tree
report_from cause related d =
    and_then (diagnosis_in d) (λ m.
    and_then (optional_value described_source (at_key (codes "source") d)) (λ s.
    and_then cause (λ one.
    and_then (optional_value (list_of as_str) (at_key (codes "causes") d)) (λ several.
    and_then related (λ r.
    and_then (optional_value (list_of as_str) (at_key (codes "contexts") d)) (λ contexts.
    tree_of_parts m s one several r contexts))))))

-- null counts as absent
abbrev pub nullable : {A : Type 0} → Data → Option A → Option (Option A)
nullable d read = if is_some (as_null d) then Some None else option_map Some read

-- Only an object is a description. `cause_in` and `related_in` read the values at these keys; they search the members
-- like a lookup.
abbrev mutual
  pub report_in : Data → Option Tree
  report_in null = None
  report_in (boolean b) = None
  report_in (number n) = None
  report_in (string s) = None
  report_in (array ds) = None
  report_in (object ms) = report_from (cause_in ms) (related_in ms) (object ms)

  pub cause_in : Members → Option (Option Tree)
  cause_in no_members = Some None
  cause_in (member k d ms) = match_ordering (slice_cmp nat_cmp (codes "cause") k) (cause_in ms)
      (nullable d (report_in d)) (cause_in ms)

  pub related_in : Members → Option (Option Trees)
  related_in no_members = Some None
  related_in (member k d ms) = match_ordering (slice_cmp nat_cmp (codes "related") k) (related_in ms)
      (nullable d (reports_in d)) (related_in ms)

  pub reports_in : Data → Option Trees
  reports_in null = None
  reports_in (boolean b) = None
  reports_in (number n) = None
  reports_in (string s) = None
  reports_in (array ds) = each_in ds
  reports_in (object ms) = None

  pub each_in : Items → Option Trees
  each_in no_items = Some no_trees
  each_in (item d ds) = and_then (report_in d) (λ t. and_then (each_in ds) (λ ts. Some (more_trees t ts)))

-- a number that is neither a `u64` nor an `i64` makes a description invalid, wherever it is
abbrev pub described_tree : Data → Option Tree
described_tree d = if has_float d then None else report_in d

-- the tree that the bytes describe, by their JSON value (at most 127 levels)
abbrev pub tree_of_bytes : List ℕ → Option Tree
tree_of_bytes bytes = option_and_then described_tree (read bytes)
