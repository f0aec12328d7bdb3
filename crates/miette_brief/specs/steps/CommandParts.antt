-- Parts of a command as they are written, and values of the code as the definitions represent them.
use Rattle.std.specs.Prelude.{ℕ, List, [], ◌++◌, Option, Some, None, codes, option_map}
use Rattle.miette_protocol.specs.rules.Reading.{Source}
use Rattle.miette_tree.specs.views.Owned.{ref_source}
use Rattle.miette_brief.specs.declared.commands.FileLocation.{FileLocation as GivenSite}
use Rattle.miette_brief.specs.declared.located_labels.LocatedLabel.{LocatedLabel as GivenMark}
use Rattle.miette_brief.specs.rules.Commands.{FileLocation, property_text, further_property}
use Rattle.miette_brief.specs.rules.LocatedLabels.{LocatedLabel}

abbrev pub file_location_of : GivenSite → FileLocation
file_location_of it = record { file = it.file.now; region = it.region }

abbrev pub located_label_of : {S : Type 0} → (S → Source) → GivenMark S → LocatedLabel
located_label_of is it = record { source = option_map (ref_source is) it.source; label = it.label.now }

-- a title, with or without a file before it
abbrev pub title_property_text : Option FileLocation → Option (List ℕ) → List ℕ
title_property_text site None = []
title_property_text None (Some title) = codes " " ++ property_text (record { key = codes "title"; value = title })
title_property_text (Some site) (Some title) = further_property (record { key = codes "title"; value = title })
