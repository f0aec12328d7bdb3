-- A file as a source.
use Rattle.std.specs.Prelude.{◌≡◌, refl, ℕ, List, Option, Some, None, option_map, true, IfSome}
use Rattle.miette_protocol.specs.rules.Reading.{Source, plain_source, named_source}
use Rattle.miette_protocol.specs.views.NamedSources.{inner_of, source_name, given_language}
use Rattle.miette_protocol.specs.declared.named_source.NamedSource.{NamedSource}

-- The source with the file's bytes and name.
abbrev pub file_source : NamedSource (List ℕ) → Source
file_source it = named_source (plain_source (inner_of it)) (source_name it) (given_language it)

-- Such a source always reads.
pub each_reads : (o : Option (NamedSource (List ℕ))) → IfSome (option_map file_source o) (λ s. s.always_reads ≡ true)
each_reads None = tt
each_reads (Some f) = refl
