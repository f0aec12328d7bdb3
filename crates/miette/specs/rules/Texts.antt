-- Texts as sources.
use Rattle.std.specs.Prelude.{◌≡◌, IsUtf8, true}
use Rattle.miette_protocol.specs.rules.Reading.{Source}

-- a source that is UTF-8 and always reads
pub record IsTextSource (source : Source) : Type 0 where
  pub utf8 : IsUtf8 source.bytes
  pub reads : source.always_reads ≡ true
