-- What a result says, and its rule.
use Rattle.std.proofs.Common.{◌≡◌, ℕ, List, [], ◌∷◌, ◌++◌, Option, Some, None, ap, ◌∙◌, codes}
use Rattle.std.proofs.Common.{option_and_then, unwrap_or}
use Rattle.std.specs.Option.{option_or}
use Rattle.std.specs.Str.{bytes_eq}
use Rattle.serde_json.specs.Data.{Data}
use Rattle.serde_json.specs.Find.{as_number, as_str, as_u64}
use Rattle.miette_json.specs.rules.Json as json
use Rattle.miette_json.specs.rules.Json.{Json}
use Rattle.miette_protocol.specs.rules.Reading.{Source}
use Rattle.miette_read.specs.rules.Members.{member_object, objects_alone, nonempty_text, member_text, member_number}
use Rattle.miette_read.specs.rules.Reports.{MessageParts}
use Rattle.miette_sarif.specs.rules.Artifacts.{index_of}
use Rattle.miette_sarif.specs.rules.Codes.{codes_of, help_uri, rule_value, rules_in as codes_in}
use Rattle.miette_sarif.specs.rules.Findings.{Finding}
use Rattle.miette_sarif.specs.rules.Objects.{Pairs, optional_text_pairs, message_of, pair}
use Rattle.miette_read_sarif.specs.rules.Descriptors.{rule_component, rule_index, item_at, rule_id, rule_named}
use Rattle.miette_read_sarif.specs.rules.Descriptors.{rule_by, rule_reference, rules_in}
use Rattle.miette_read_sarif.specs.rules.Results.{RunContext, result_code, default_level, result_context, result_level}
use Rattle.miette_read_sarif.specs.rules.Results.{message_in}
use Rattle.miette_read_sarif.specs.rules.Results.{message_text, rule_of, result_parts, sarif_severity, strings_of}
use Rattle.miette_read_sarif.specs.rules.Results.{url_of}
use Rattle.miette_read_laws.specs.laws.Data.{data_of}
use Rattle.miette_read_laws.specs.laws.Kept.{url_kept}
use Rattle.miette_read_laws.proofs.RunContext.{log_context}
use Rattle.miette_read_laws.proofs.Members.{id_read, index_read, level_read, message_read, no_id_read}
use Rattle.miette_read_laws.proofs.Members.{no_index_read, result_by, rule_read}
use Rattle.miette_read_laws.proofs.Objects.{object_read}
use Rattle.miette_read_laws.proofs.Rules.{HasCode, rule_at}

-- ---- a rule

abbrev value_pairs : List ℕ → Option (List ℕ) → Pairs
value_pairs code uri = pair (codes "id") (json.string code) ++ optional_text_pairs (codes "helpUri") uri

pub address_read : (code : List ℕ) (uri : Option (List ℕ))
    → member_text (codes "helpUri") (data_of (rule_value code uri)) ≡ uri
address_read code None = ap (option_and_then as_str) (object_read (codes "helpUri") (value_pairs code None))
address_read code (Some uri) =
    ap (option_and_then as_str) (object_read (codes "helpUri") (value_pairs code (Some uri)))

no_strings : (code : List ℕ) (uri : Option (List ℕ))
    → member_object (codes "messageStrings") (data_of (rule_value code uri)) ≡ None
no_strings code None =
    ap (option_and_then objects_alone) (object_read (codes "messageStrings") (value_pairs code None))
no_strings code (Some uri) =
    ap (option_and_then objects_alone) (object_read (codes "messageStrings") (value_pairs code (Some uri)))

-- ---- a result over the rules of its log

module _ (files : List ℕ → Option Source) (artifacts : List Data) (fs : List Finding) (level text : List ℕ)
    (ls rs xs : List Json) where
  abbrev g : RunContext
  g = log_context files (codes_in fs) artifacts

  abbrev d : List ℕ → Data
  d code = result_by (codes_in fs) level text ls rs xs code

  abbrev rule_kept : List ℕ → Option Data
  rule_kept [] = None
  rule_kept (c ∷ cs) = Some (data_of (rule_value (c ∷ cs) (help_uri (c ∷ cs) fs)))

  told_none : (code : List ℕ) → rule_reference (d code) ≡ None
  told_none code = ap (option_and_then objects_alone) (rule_read (codes_in fs) level text ls rs xs code)

  -- it is one of the driver's own
  own_rules : (code : List ℕ) → rules_in g.rules g.extensions (rule_component (d code)) ≡ Some g.rules
  own_rules code =
      ap (λ o. rules_in g.rules g.extensions (option_and_then (member_object (codes "toolComponent")) o))
      (told_none code)

  id_none : rule_id (d []) ≡ None
  id_none =
      ap (λ o. option_or (option_and_then as_str o) (option_and_then (member_text (codes "id"))
      (rule_reference (d []))))
      (no_id_read (codes_in fs) level text ls rs xs)
      ∙ ap (λ o. option_or None (option_and_then (member_text (codes "id")) o)) (told_none [])

  id_there : (c : ℕ) (cs : List ℕ) → rule_id (d (c ∷ cs)) ≡ Some (c ∷ cs)
  id_there c cs =
      ap (λ o. option_or (option_and_then as_str o)
      (option_and_then (member_text (codes "id")) (rule_reference (d (c ∷ cs)))))
      (id_read (codes_in fs) level text ls rs xs c cs)

  index_none : rule_index (d []) ≡ None
  index_none =
      ap (λ o. option_or (option_and_then as_u64 (option_and_then as_number o))
      (option_and_then (member_number (codes "index")) (rule_reference (d []))))
      (no_index_read (codes_in fs) level text ls rs xs)
      ∙ ap (λ o. option_or None (option_and_then (member_number (codes "index")) o)) (told_none [])

  index_there : (c : ℕ) (cs : List ℕ)
      → rule_index (d (c ∷ cs)) ≡ Some (index_of (bytes_eq (c ∷ cs)) (codes_of fs))
  index_there c cs =
      ap (λ o. option_or (option_and_then as_u64 (option_and_then as_number o))
      (option_and_then (member_number (codes "index")) (rule_reference (d (c ∷ cs)))))
      (index_read (codes_in fs) level text ls rs xs c cs)

  pub rule_found : (code : List ℕ) → HasCode code fs → rule_of g (d code) ≡ rule_kept code
  rule_found [] h =
      let id : Option (List ℕ) = rule_id (d []) in
      let by_id : Option Data = rule_named g.rules g.extensions id in
      ap (λ rules. option_or (rule_by (rule_index (d [])) rules) by_id) (own_rules [])
      ∙ (ap (λ i. option_or (item_at g.rules i) by_id) index_none
      ∙ ap (λ i. option_or None (rule_named g.rules g.extensions i)) id_none)
  rule_found (c ∷ cs) h =
      let id : Option (List ℕ) = rule_id (d (c ∷ cs)) in
      let by_id : Option Data = rule_named g.rules g.extensions id in
      ap (λ rules. option_or (rule_by (rule_index (d (c ∷ cs))) rules) by_id) (own_rules (c ∷ cs))
      ∙ (ap (λ i. option_or (item_at g.rules i) by_id) (index_there c cs)
      ∙ ap (λ o. option_or o by_id) (rule_at c cs fs h))

  strings_none : (code : List ℕ) → HasCode code fs → strings_of g (d code) ≡ None
  strings_none [] h = ap (option_and_then (member_object (codes "messageStrings"))) (rule_found [] h)
  strings_none (c ∷ cs) h =
      ap (option_and_then (member_object (codes "messageStrings"))) (rule_found (c ∷ cs) h)
      ∙ no_strings (c ∷ cs) (help_uri (c ∷ cs) fs)

  pub same_ground : (code : List ℕ) → HasCode code fs → result_context g (d code) ≡ g
  same_ground code h = ap (λ o. record g { strings = o }) (strings_none code h)

  -- ---- what it says

  code_read : (code : List ℕ) → HasCode code fs → result_code g (d code) ≡ nonempty_text (Some code)
  code_read [] h =
      ap (λ o. option_or o (option_and_then (member_text (codes "id")) (rule_of g (d [])))) id_none
      ∙ ap (λ o. option_or None (option_and_then (member_text (codes "id")) o)) (rule_found [] h)
  code_read (c ∷ cs) h =
      ap (λ o. option_or o (option_and_then (member_text (codes "id")) (rule_of g (d (c ∷ cs))))) (id_there c cs)

  url_read : (code : List ℕ) → HasCode code fs → url_of g (d code) ≡ url_kept fs code
  url_read [] h = ap (option_and_then (member_text (codes "helpUri"))) (rule_found [] h)
  url_read (c ∷ cs) h =
      ap (option_and_then (member_text (codes "helpUri"))) (rule_found (c ∷ cs) h)
      ∙ address_read (c ∷ cs) (help_uri (c ∷ cs) fs)

  severity_read : (code : List ℕ) → sarif_severity (result_level g (d code)) ≡ sarif_severity level
  severity_read code =
      ap (λ o. sarif_severity (unwrap_or (option_and_then as_str o) (default_level g (d code))))
      (level_read (codes_in fs) level text ls rs xs code)

  message_said : (code rows : List ℕ) → message_text None (data_of (message_of text)) ≡ Some rows
      → unwrap_or (message_in None (d code)) [] ≡ rows
  message_said code rows e =
      ap (λ o. unwrap_or (option_and_then (message_text None) (option_and_then objects_alone o)) [])
      (message_read (codes_in fs) level text ls rs xs code)
      ∙ ap (λ o. unwrap_or o []) e

  abbrev made : Option (List ℕ) → List ℕ → Option (List ℕ) → List ℕ → Option (List ℕ) → MessageParts
  made help message code named url = record {
    message = message;
    code = code;
    severity = sarif_severity named;
    help = help;
    url = url;
  }

  pub said_read : (help : Option (List ℕ)) (code rows : List ℕ) → HasCode code fs
      → message_text None (data_of (message_of text)) ≡ Some rows
      → result_parts g help (d code) ≡ record {
        message = rows;
        code = nonempty_text (Some code);
        severity = sarif_severity level;
        help = help;
        url = url_kept fs code;
      }
  said_read help code rows h e =
      let named : List ℕ = result_level g (d code) in
      ap (λ it. made help it (result_code g (d code)) named (url_of g (d code))) (message_said code rows e)
      ∙ (ap (λ it. made help rows it named (url_of g (d code))) (code_read code h)
      ∙ (ap (made help rows (nonempty_text (Some code)) named) (url_read code h)
      ∙ ap (λ it. record (made help rows (nonempty_text (Some code)) named (url_kept fs code)) { severity = it })
      (severity_read code)))
