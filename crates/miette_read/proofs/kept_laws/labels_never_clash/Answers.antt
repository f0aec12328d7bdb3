use Rattle.miette_read.proofs.Apart.{labels_apart}
use Rattle.miette_read.proofs.kept_laws.labels_never_clash.Goals as goal

pub returns : goal.returns
returns c = labels_apart
