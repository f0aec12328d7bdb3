-- A span read with context lines, and the lines that it shows.
use Rattle.std.specs.Prelude.{ℕ, ◌+◌, List, length, ◌&&◌, nat_le}
use Rattle.std.specs.List.{range_with_len, filter}
use Rattle.miette_lines.specs.rules.Lines.{Line, lines_from, lines_of, line_start, line_end}
use Rattle.miette_protocol.specs.rules.Reading.{Span, Source, Contents, contents_of}

-- where a span ends
abbrev pub end_of_span : Span → ℕ
end_of_span span = span.offset + span.len

-- what reading a span with `context` context lines returns
abbrev pub contents : ℕ → Source → Span → Contents
contents context source span = contents_of source span context context

-- the lines of the data of a read, with their offsets in the source
abbrev pub lines_of_contents : Contents → List Line
lines_of_contents read = lines_from read.span.offset read.bytes

-- the numbers of the lines in the data of a read
abbrev pub lines_in : List ℕ → Contents → List ℕ
lines_in bytes read =
    filter (λ k. nat_le read.span.offset (line_start bytes k) && nat_le (line_end bytes k) (end_of_span read.span))
    (range_with_len 0 (length (lines_of bytes)))
