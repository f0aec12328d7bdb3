-- The rules of a log in the code, as the definitions represent them.
use Rattle.std.specs.Prelude.{ℕ, List, map, string_bytes, Option}
use Rattle.std.specs.Option.{option_map}
use Rattle.std.specs.Str.{bytes_eq}
use Rattle.std.specs.declared.alloc.Global.{Global}
use Rattle.std.specs.declared.string.String.{String}
use Rattle.indexmap.specs.IndexMap.{IndexMap, get_by}
use denote.Ref.{Bor}
use Rattle.miette_sarif.specs.declared.rules.Rules.{Rules as RulesHere}
use Rattle.miette_sarif.specs.rules.Codes.{Rules}

abbrev pub codes_seen : List (Bor (List ℕ)) → List (List ℕ)
codes_seen ks = map (λ k. k.now) ks

abbrev pub option_text : Option (String Global) → Option (List ℕ)
option_text it = option_map string_bytes it

-- the address of a code
abbrev pub uri_at : {S : Type 0} → IndexMap (Bor (List ℕ)) (String Global) S → List ℕ → Option (List ℕ)
uri_at m code = option_text (get_by (λ k. bytes_eq code k.now) m)

abbrev pub rules_view : RulesHere → Rules
rules_view it = record { codes = codes_seen it.codes.keys; uri = uri_at it.uris }
