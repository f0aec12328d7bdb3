-- Texts without links: only the text of a link stays.
use Rattle.std.specs.Prelude.{ℕ, zero, suc, List, [], ◌∷◌, ◌++◌, Bool, false, ◌==◌, if◌then◌else◌}
use Rattle.miette_read_sarif.specs.rules.Messages.{MessagePiece, backslash_piece, closing_piece, opening_piece, plain}

-- The piece that starts with byte `b`, before `text`. A brace stays as it is.
abbrev pub link_piece : Bool → ℕ → List ℕ → MessagePiece
link_piece in_link b text =
    if b == 92 then backslash_piece in_link text
    else if b == 91 then opening_piece in_link text
    else if b == 93 then closing_piece in_link text else plain in_link b

-- The text without links after the first `n` bytes.
abbrev pub unlinked_after : Bool → ℕ → List ℕ → List ℕ
unlinked_after in_link n [] = []
unlinked_after in_link zero (b ∷ bs) =
    let piece = link_piece in_link b bs in piece.message_shown ++ unlinked_after piece.in_link piece.further bs
unlinked_after in_link (suc n) (b ∷ bs) = unlinked_after in_link n bs

abbrev pub without_links : List ℕ → List ℕ
without_links text = unlinked_after false 0 text
