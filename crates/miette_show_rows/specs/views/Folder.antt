-- The model of files that were looked up.
use Rattle.std.specs.Prelude.{◌≡◌, refl, ℕ, List, Option, Some, None, IfSome, true, is_some, option_and_then}
use Rattle.std.specs.Prelude.{String, option_map}
use Rattle.std.specs.HashMap.{HashMap, get_by_text}
use Rattle.std.specs.declared.alloc.Global.{Global}
use Rattle.miette_protocol.specs.declared.named_source.NamedSource.{NamedSource}
use Rattle.miette_protocol.specs.rules.Reading.{Source}
use Rattle.miette_read.specs.views.Files.{file_source}

abbrev pub FileMap : Type 0 → Type 0
FileMap S = HashMap (String Global) (Option (NamedSource (List ℕ))) S

abbrev pub found_in : {S : Type 0} → FileMap S → List ℕ → Option Source
found_in files name = option_and_then (option_map file_source) (get_by_text files name)

-- The name was looked up, whether it was found or not.
abbrev pub IsLookedFor : {S : Type 0} → FileMap S → List ℕ → Type 0
IsLookedFor files name = is_some (get_by_text files name) ≡ true

-- A file that was found always reads.
one_reads : (o : Option (Option (NamedSource (List ℕ))))
    → IfSome (option_and_then (option_map file_source) o) (λ s. s.always_reads ≡ true)
one_reads None = tt
one_reads (Some None) = tt
one_reads (Some (Some f)) = refl

pub each_reads : {S : Type 0} (files : FileMap S) (name : List ℕ)
    → IfSome (found_in files name) (λ s. s.always_reads ≡ true)
each_reads files name = one_reads (get_by_text files name)
