-- The rule of a result.
use Rattle.std.specs.Prelude.{ℕ, List, [], ◌∷◌, Option, Some, None, Bool, true, false, ◌&&◌, ◌==◌, if◌then◌else◌, codes}
use Rattle.std.specs.Prelude.{length, nat_lt, option_and_then, slice_get, unwrap_or}
use Rattle.std.specs.List.{fold}
use Rattle.std.specs.Option.{option_or}
use Rattle.serde_json.specs.Data.{Data}
use Rattle.miette_read.specs.rules.Members.{member_object, member_text, member_number}
use Rattle.miette_read_sarif.specs.rules.Uris.{after_front}

-- ---- what a result says of it

abbrev pub rule_reference : Data → Option Data
rule_reference r = member_object (codes "rule") r

abbrev pub rule_id : Data → Option (List ℕ)
rule_id r = option_or (member_text (codes "ruleId") r) (option_and_then (member_text (codes "id")) (rule_reference r))

abbrev pub rule_index : Data → Option ℕ
rule_index r = option_or (member_number (codes "ruleIndex") r) (option_and_then (member_number (codes "index"))
    (rule_reference r))

-- The tool component that has the rule.
abbrev pub rule_component : Data → Option Data
rule_component r = option_and_then (member_object (codes "toolComponent")) (rule_reference r)

-- ---- by its index

abbrev pub item_at : {A : Type 0} → List A → Option ℕ → Option A
item_at items None = None
item_at items (Some index) = slice_get items index

-- The rules of the driver, or of the extension in the reference.
abbrev pub rules_in : List Data → List (List Data) → Option Data → Option (List Data)
rules_in rules extensions None = Some rules
rules_in rules extensions (Some component) = item_at extensions (member_number (codes "index") component)

abbrev pub rule_by : Option ℕ → Option (List Data) → Option Data
rule_by index rules = option_and_then (λ its. item_at its index) rules

abbrev pub rule_at : List Data → List (List Data) → Data → Option Data
rule_at rules extensions r = rule_by (rule_index r) (rules_in rules extensions (rule_component r))

-- ---- by its id

-- The rest of an id is empty or starts with `/`.
abbrev pub ends_there : Option (List ℕ) → Bool
ends_there None = false
ends_there (Some []) = true
ends_there (Some (b ∷ bs)) = b == 47

-- The rule's id equals this one, or is a prefix of it before a `/`.
abbrev pub is_for : List ℕ → Data → Bool
is_for id rule = ends_there (option_and_then (λ its. after_front its id) (member_text (codes "id") rule))

abbrev pub id_size : Data → ℕ
id_size rule = length (unwrap_or (member_text (codes "id") rule) [])

abbrev pub is_closer : Option Data → Data → Bool
is_closer None rule = true
is_closer (Some other) rule = nat_lt (id_size other) (id_size rule)

abbrev pub closer : List ℕ → Option Data → Data → Option Data
closer id found rule = if is_for id rule && is_closer found rule then Some rule else found

-- The matching rule with the longest id. If several have it, the first one.
abbrev pub closest : List ℕ → Option Data → List Data → Option Data
closest id found rules = fold (closer id) found rules

-- Rules of the driver come first, then those of each extension.
abbrev pub rule_named : List Data → List (List Data) → Option (List ℕ) → Option Data
rule_named rules extensions None = None
rule_named rules extensions (Some id) = fold (closest id) (closest id None rules) extensions
