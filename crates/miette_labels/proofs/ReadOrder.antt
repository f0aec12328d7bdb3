-- Labels that were all read are in the order in which they were read.
use Rattle.std.specs.Prelude.{Vec}
use Rattle.std.specs.declared.alloc.Global.{Global}
use Rattle.std.proofs.Common.{map, subst, ◌≡◌, ℕ, List}
use Rattle.miette_protocol.specs.rules.Reading.{Source}
use Rattle.miette_protocol.specs.views.Meaning.{Label}
use Rattle.miette_labels.specs.declared.reading.ReadLabel.{ReadLabel}
use Rattle.miette_labels.specs.declared.reading.ReadLabels.{ReadLabels}
use Rattle.miette_labels.specs.declared.reading.ReadLabels.TheVariants as reads
use Rattle.miette_labels.specs.views.Reads.{AreRead}
use Rattle.miette_labels.specs.views.ProgramLabels.{label_at}

pub all_in_order : (context : ℕ) (source : Source) (labels order : List Label) (read : ReadLabels)
    (items : Vec ReadLabel Global) → AreRead context source labels order read → read ≡ reads.All items
    → map (λ (r : ReadLabel). label_at labels r.index) items.items ≡ order
all_in_order context source labels order read items h is = (subst (AreRead context source labels order) is h).0
