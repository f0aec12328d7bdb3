-- What owned sources represent, and what the source field of a report represents.
use Rattle.std.specs.Prelude.{ℕ, List, Option, option_map}
use Rattle.miette_protocol.specs.rules.Reading.{Source, plain_source, named_source}
use Rattle.miette_protocol.specs.views.NamedSources.{inner_of, source_name, given_language}
use Rattle.miette_tree.specs.declared.owned.SourceBytes.{SourceBytes}
use Rattle.miette_tree.specs.declared.owned.SourceBytes.TheVariants as bytes
use Rattle.miette_tree.specs.declared.owned.SourceStorage.{SourceStorage}
use Rattle.miette_tree.specs.declared.owned.SourceStorage.TheVariants as storage
use Rattle.miette_tree.specs.declared.owned.OwnedSource.{OwnedSource}
use Rattle.miette_tree.specs.declared.owned.ReportSource.{ReportSource}
use Rattle.miette_tree.specs.declared.owned.ReportSource.TheVariants as kept
use Rattle.miette_tree.specs.declared.owned.SourceRef.{SourceRef}

-- the bytes, with an index or without one
abbrev pub bytes_in : SourceBytes → List ℕ
bytes_in (bytes.Unindexed it) = it.items
bytes_in (bytes.Indexed it) = it

-- with a name or without one
abbrev pub storage_source : SourceStorage → Source
storage_source (storage.Plain it) = plain_source (bytes_in it)
storage_source (storage.Named it) = named_source (plain_source (bytes_in (inner_of it))) (source_name it)
    (given_language it)

abbrev pub owned_source : OwnedSource → Source
owned_source it = storage_source it.storage.value

-- a boxed source, given what boxes represent, or an owned one
abbrev pub kept_source : {S : Type 0} → (S → Source) → ReportSource S → Source
kept_source is (kept.Boxed it) = is it
kept_source is (kept.Owned it) = owned_source it

-- the source that is borrowed
abbrev pub ref_source : {S : Type 0} → (S → Source) → SourceRef S → Source
ref_source is it = kept_source is it.place.now

-- the same for a source that may be missing
abbrev pub opt_ref_source : {S : Type 0} → (S → Source) → Option (SourceRef S) → Option Source
opt_ref_source is = option_map (ref_source is)
