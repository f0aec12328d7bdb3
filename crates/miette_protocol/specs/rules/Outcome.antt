-- The possible results of a read.
use Rattle.std.specs.Prelude.{◌≡◌, ℕ, false, Result, MatchResult}
use Rattle.miette_protocol.specs.rules.Reading.{Source, Span, Contents, IsInBounds, contents_of}
use Rattle.miette_protocol.specs.declared.error.MietteError.{MietteError}
use Rattle.miette_protocol.specs.declared.error.MietteError.TheVariants.{IoError, OutOfBounds}

-- `OutOfBounds` for a span out of bounds only, `IoError` from a source that can fail to read only
abbrev pub IsReadError : Source → Span → MietteError → Type 0
IsReadError source span OutOfBounds = ¬ IsInBounds source.bytes span
IsReadError source span (IoError _) = source.always_reads ≡ false

-- a read returns the contents of an in-bounds span, or an error
abbrev pub Answers : Source → Span → ℕ → ℕ → Result Contents MietteError → Type 0
Answers source span before after result =
    MatchResult result
    (λ it. IsInBounds source.bytes span × (it ≡ contents_of source span before after))
    (λ e. IsReadError source span e)
