-- A piece with the text after it.
use Rattle.std.specs.Prelude.{ℕ, List, Bool, drop}
use Rattle.miette_read_sarif.specs.rules.Messages.{MessagePiece}

pub record Cut : Type 0 where
  pub message_shown : List ℕ
  pub rest : List ℕ
  pub in_link : Bool

-- The piece, and the text after it. `after` follows the piece's first byte.
abbrev pub cut : MessagePiece → List ℕ → Cut
cut piece after = record {
  message_shown = piece.message_shown;
  rest = drop piece.further after;
  in_link
      = piece.in_link;
}
