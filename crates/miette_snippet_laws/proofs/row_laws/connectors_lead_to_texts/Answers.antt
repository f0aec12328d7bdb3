use Rattle.miette_snippet_laws.proofs.Whole.{body_shows}
use Rattle.miette_snippet_laws.proofs.row_laws.connectors_lead_to_texts.Goals as goal

pub returns : goal.returns
returns c = body_shows
