use Rattle.miette_text.proofs.Encoding.{erase-encode}
use Rattle.miette_text.proofs.wrap_laws.encoding_law.Goals as goal

pub returns : goal.returns
returns c = erase-encode
