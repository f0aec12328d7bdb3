-- Where the contents of a read begin, the line is known.
use Rattle.std.proofs.Common.{◌≡◌, ℕ, ap, ◌∙◌, List, subst, sym, arith}
use Rattle.miette_lines.specs.declared.near.KnownLine.{KnownLine}
use Rattle.miette_lines.specs.declared.near.KnownLines.{KnownLines}
use Rattle.miette_lines.specs.views.Known.{IsKnown}
use Rattle.miette_lines.proofs.Places.{line_of_zero}
use Rattle.miette_protocol.specs.rules.Reading.{Contents, Source, Span}
use Rattle.miette_protocol.proofs.KnownLines.{contents_known}
use Rattle.miette_labels.specs.views.Reads.{AreContents}

-- that of the start
pub start_known : (bytes : List ℕ) → IsKnown bytes (record { offset = 0; line = 0 })
start_known bytes = record { within = omega arith; line = line_of_zero bytes }

pub read_known : (context : ℕ) (source : Source) (span : Span) (contents : Contents) (known : KnownLine)
    → AreContents context source span contents → known.offset ≡ contents.span.offset → known.line ≡ contents.line
    → IsKnown source.bytes known
read_known context source span contents known h offset line =
    contents_known source span context context known h.accepted (offset ∙ ap (λ it. it.span.offset) h.is)
    (line ∙ ap (λ it. it.line) h.is)

-- the last of two that are one
pub read_last : (context : ℕ) (source : Source) (span : Span) (contents : Contents) (known : KnownLines)
    → AreContents context source span contents → known.first.offset ≡ contents.span.offset →
    known.first.line ≡ contents.line → known.last ≡ known.first → IsKnown source.bytes known.last
read_last context source span contents known h offset line last =
    subst (λ (it : KnownLine). IsKnown source.bytes it) (sym last)
    (read_known context source span contents known.first h offset line)
