use Rattle.miette_read_laws.proofs.Written.{text_read}
use Rattle.miette_read_laws.proofs.log_laws.texts_of_logs_read_back.Goals as goal

pub returns : goal.returns
returns c = text_read
