use Rattle.miette_read_laws.proofs.LinkEnds.{linkless_kept}
use Rattle.miette_read_laws.proofs.log_laws.texts_without_links_read_back.Goals as goal

pub returns : goal.returns
returns c = linkless_kept
