use Rattle.miette_language_server.proofs.ReadBack.{read_back}
use Rattle.miette_language_server.proofs.laws.lsp_frame_laws.Goals as goal

pub returns : goal.returns
returns c = record { back = read_back }
