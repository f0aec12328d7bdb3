-- What labels over further sources represent, and the lists that a report stores besides its diagnostic.
use Rattle.std.specs.Prelude.{List, [], Option, option_map, unwrap_or, Box}
use Rattle.std.specs.declared.alloc.Global.{Global}
use Rattle.miette_fixes.specs.rules.Edits.{FixModel}
use Rattle.miette_protocol.specs.rules.Reading.{Source}
use Rattle.miette_tree.specs.declared.attachments.Attachments.{Attachments}
use Rattle.miette_tree.specs.declared.attachments.Snippets.{Snippets}
use Rattle.miette_tree.specs.rules.Diagnosis.{Section}
use Rattle.miette_tree.specs.views.Owned.{kept_source}

-- a source and its labels
abbrev pub section_of : {S : Type 0} → (S → Source) → Snippets S → Section
section_of is it = record { source = kept_source is it.place; labels = it.labels.items }

-- the labels over further sources; empty if nothing is stored
abbrev pub snippets_in : {S : Type 0} → Option (Box (Attachments S) Global) → List (Snippets S)
snippets_in kept = unwrap_or (option_map (λ b. b.value.snippets.items) kept) []

-- the fixes; empty if nothing is stored
abbrev pub fixes_in : {S : Type 0} → Option (Box (Attachments S) Global) → List FixModel
fixes_in kept = unwrap_or (option_map (λ b. b.value.fixes.items) kept) []
