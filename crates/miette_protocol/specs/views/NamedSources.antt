-- What named sources represent.
use Rattle.std.specs.Prelude.{ℕ, List, Option, string_bytes}
use Rattle.std.specs.Option.{option_map}
use Rattle.miette_protocol.specs.declared.named_source.NamedSource.{NamedSource}

-- the inner source
abbrev pub inner_of : {S : Type 0} → NamedSource S → S
inner_of it = it.source

-- the name
abbrev pub source_name : {S : Type 0} → NamedSource S → List ℕ
source_name it = string_bytes it.name

-- the language, if one was set
abbrev pub given_language : {S : Type 0} → NamedSource S → Option (List ℕ)
given_language it = option_map string_bytes it.language
