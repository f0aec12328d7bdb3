-- Rows that fit, and how they are placed in wrapped text.
pub use Rattle.miette_text.specs.laws.FittingRows.{is_row, FitsRow, fed_rows, bare_row, indented_rows}
