-- The source that fixes apply to, as the code has it.
use Rattle.miette_narrated.specs.declared.fixes.NarratedFixSource.{NarratedFixSource}
use Rattle.miette_narrated.specs.declared.fixes.NarratedFixSource.TheVariants as given
use Rattle.miette_narrated.specs.rules.Fixes.{NarratedFixOrigin, no_source, unread, read}

abbrev pub narrated_origin_of : NarratedFixSource → NarratedFixOrigin
narrated_origin_of given.Nowhere = no_source
narrated_origin_of given.Unread = unread
narrated_origin_of (given.Lines source) = read source.now
