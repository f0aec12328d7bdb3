use Rattle.miette_graphical_laws.proofs.PrintedRows.{prints_row}
use Rattle.miette_graphical_laws.proofs.laws.row_text_law.Goals as goal

pub returns : goal.returns
returns c = λ row. prints_row row c.encoding_law.ensures c.printing_law.ensures.erase
