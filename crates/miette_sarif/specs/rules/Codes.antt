-- The rules of a log: the codes of its results. Each is listed once, in the order of the first result with it.
use Rattle.std.specs.Prelude.{ℕ, List, [], ◌∷◌, ◌++◌, map, codes, Bool, false, ◌&&◌, not, if◌then◌else◌, Option}
use Rattle.std.specs.Prelude.{Some, None}
use Rattle.std.specs.Str.{bytes_eq}
use Rattle.indexmap.specs.IndexSet.{insert_key}
use Rattle.miette_lines.specs.rules.Lists.{is_nil}
use Rattle.miette_json.specs.rules.Json.{Json, number, string}
use Rattle.miette_sarif.specs.rules.Artifacts.{index_of}
use Rattle.miette_sarif.specs.rules.Findings.{Finding}
use Rattle.miette_sarif.specs.rules.Objects.{Pairs, object_of, pair, optional_text_pairs}
use Rattle.miette_sarif.specs.rules.Uris.{address_uri, is_absolute_uri}

-- the codes of findings, each once, after the given ones; an empty code counts as none
abbrev pub codes_after : List (List ℕ) → List Finding → List (List ℕ)
codes_after before [] = before
codes_after before (f ∷ fs) = codes_after (if is_nil f.code then before else insert_key bytes_eq before f.code) fs

abbrev pub codes_of : List Finding → List (List ℕ)
codes_of fs = codes_after [] fs

-- a url as a URI, if it is absolute
abbrev pub absolute_uri : Option (List ℕ) → Option (List ℕ)
absolute_uri None = None
absolute_uri (Some url) = if is_absolute_uri url then Some (address_uri url) else None

abbrev pub first_or : Option (List ℕ) → Option (List ℕ) → Option (List ℕ)
first_or None otherwise = otherwise
first_or (Some uri) otherwise = Some uri

-- whether a finding has this code; an empty code counts as none
abbrev pub has_code : List ℕ → List ℕ → Bool
has_code code given = not (is_nil given) && bytes_eq given code

-- the first absolute url of a finding with this code, as a URI
abbrev pub help_uri : List ℕ → List Finding → Option (List ℕ)
help_uri code [] = None
help_uri code (f ∷ fs) =
    if has_code code f.code then first_or (absolute_uri f.url) (help_uri code fs) else help_uri code fs

-- the codes, and the help address of each
pub record Rules : Type 0 where
  pub codes : List (List ℕ)
  pub uri : List ℕ → Option (List ℕ)

abbrev pub rules_in : List Finding → Rules
rules_in fs = record { codes = codes_of fs; uri = λ code. help_uri code fs }

abbrev pub rule_value : List ℕ → Option (List ℕ) → Json
rule_value code uri = object_of (pair (codes "id") (string code) ++ optional_text_pairs (codes "helpUri") uri)

abbrev pub rule_values_of : List (List ℕ) → (List ℕ → Option (List ℕ)) → List Json
rule_values_of codes uri = map (λ code. rule_value code (uri code)) codes

abbrev pub rule_values : Rules → List Json
rule_values r = rule_values_of r.codes r.uri

-- the rule of a result, if it has a code
abbrev pub rule_pairs : Rules → List ℕ → Pairs
rule_pairs r code = if is_nil code then []
    else pair (codes "ruleId") (string code) ++ pair (codes "ruleIndex") (number (index_of (bytes_eq code) r.codes))

-- whether a url, as a URI, is the rule's help address
abbrev pub is_uri_of_rule : Option (List ℕ) → List ℕ → Bool
is_uri_of_rule None url = false
is_uri_of_rule (Some uri) url = is_absolute_uri url && bytes_eq (address_uri url) uri
