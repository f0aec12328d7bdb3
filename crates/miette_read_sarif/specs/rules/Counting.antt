-- Which results of a run are reported.
use Rattle.std.specs.Prelude.{ℕ, List, [], Bool, not, ◌&&◌, ◌||◌, bytes_eq, codes, filter, unwrap_or}
use Rattle.std.specs.List.{list_all}
use Rattle.serde_json.specs.Data.{Data}
use Rattle.miette_lines.specs.rules.Lists.{is_nil}
use Rattle.miette_read.specs.rules.Members.{member_objects, member_text}

-- The text at a key equals this one.
abbrev pub says : List ℕ → List ℕ → Data → Bool
says key text d = bytes_eq (unwrap_or (member_text key d) []) text

-- The suppression has no status other than `accepted`.
abbrev pub is_accepted : Data → Bool
is_accepted s = bytes_eq (unwrap_or (member_text (codes "status") s) (codes "accepted")) (codes "accepted")

abbrev pub are_accepted : List Data → Bool
are_accepted ss = not (is_nil ss) && list_all is_accepted ss

-- The result has suppressions, and each is accepted.
abbrev pub is_suppressed : Data → Bool
is_suppressed r = are_accepted (member_objects (codes "suppressions") r)

-- The result was in an earlier run and is gone.
abbrev pub is_absent : Data → Bool
is_absent r = says (codes "baselineState") (codes "absent") r

-- The rule passed or didn't apply.
abbrev pub has_passed : Data → Bool
has_passed r = says (codes "kind") (codes "pass") r || says (codes "kind") (codes "notApplicable") r

abbrev pub is_counted : Data → Bool
is_counted r = not (is_suppressed r || (is_absent r || has_passed r))

-- The results of a run that are reported.
abbrev pub results_of : Data → List Data
results_of run = filter is_counted (member_objects (codes "results") run)
