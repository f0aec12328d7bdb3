-- Line numbers, from the contents of a read.
use Rattle.std.specs.Prelude.{ℕ, ◌≡◌, ◌≤◌}
use Rattle.miette_lines.specs.rules.Lines.{line_of}
use Rattle.miette_protocol.specs.rules.Reading.{Span, Source, Contents}
use Rattle.miette_labels.specs.rules.Contexts.{end_of_span}
use Rattle.miette_labels.specs.views.Reads.{AreContents}

-- the line number of an offset that was read, in every source that gives these contents
abbrev pub IsLineIn : Contents → ℕ → ℕ → Type 0
IsLineIn contents offset line =
    (context : ℕ) (source : Source) (span : Span) → AreContents context source span contents →
    contents.span.offset ≤ offset → offset ≤ end_of_span contents.span → line ≡ line_of source.bytes offset
