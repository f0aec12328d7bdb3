-- What reading a span of a source returns.
use Rattle.std.specs.Prelude.{ℕ, ◌+◌, ◌-◌, ◌≤◌, Bool, ◌&&◌, ◌==◌, if◌then◌else◌, min, List, length, slice_index, nat_le}
use Rattle.std.specs.Prelude.{slice_range, Option, Some, None, is_some, true}
use Rattle.miette_lines.specs.rules.Lines.{LF, CR, line_of, line_start, line_end, column_of, terminators_in}

-- an offset and a length, in bytes
pub record Span : Type 0 where
  pub offset : ℕ
  pub len : ℕ

-- a source: its bytes, name and language, and whether it always reads
pub record Source : Type 0 where
  pub bytes : List ℕ
  pub name : Option (List ℕ)
  pub language : Option (List ℕ)
  pub always_reads : Bool

-- bytes without name and language that always read
abbrev pub plain_source : List ℕ → Source
plain_source bytes = record { bytes = bytes; name = None; language = None; always_reads = true }

-- a source with another name, and with the language if one is given
abbrev pub named_source : Source → List ℕ → Option (List ℕ) → Source
named_source inner name given = record inner {
  name = Some name;
  language = if is_some given then given else inner.language;
}

-- the contents that a read returns
pub record Contents : Type 0 where
  pub bytes : List ℕ
  pub span : Span
  pub line : ℕ
  pub column : ℕ
  pub line_count : ℕ
  pub name : Option (List ℕ)
  pub language : Option (List ℕ)

-- a span may begin at the end of the bytes, and may end one byte after it
pub record IsInBounds (bytes : List ℕ) (span : Span) : Type 0 where
  pub begins : span.offset ≤ length bytes
  pub ends : span.offset + span.len ≤ length bytes + 1

-- whether a span is in bounds
abbrev pub is_in_bounds : List ℕ → Span → Bool
is_in_bounds bytes span = nat_le span.offset (length bytes) && nat_le (span.offset + span.len) (length bytes + 1)

-- where a span ends; an empty span at 0 is read as the first byte
abbrev pub span_end : Span → ℕ
span_end span = if span.offset + span.len == 0 then 1 else span.offset + span.len

-- whether an offset is between a CR and its LF
abbrev pub splits_crlf : List ℕ → ℕ → Bool
splits_crlf bytes at = (slice_index bytes (at - 1) == CR) && (slice_index bytes at == LF)

-- where the read of a span ends; a CRLF is read whole
abbrev pub reading_end : List ℕ → Span → ℕ
reading_end bytes span = if splits_crlf bytes (span_end span) then span_end span + 1 else span_end span

-- where the data begin: at the span, or at the start of the line `before` lines above
abbrev pub data_start : List ℕ → Span → ℕ → ℕ
data_start bytes span before =
    if before == 0 then span.offset else line_start bytes (line_of bytes span.offset - before)

-- where the data end: with the read, or at the end of the line `after` lines below
abbrev pub data_end : List ℕ → Span → ℕ → ℕ
data_end bytes span after =
    if after == 0 then min (length bytes) (reading_end bytes span)
    else line_end bytes (line_of bytes (reading_end bytes span) + after)

-- what reading a span with context lines returns
abbrev pub contents_of : Source → Span → ℕ → ℕ → Contents
contents_of source span before after =
    let bytes = source.bytes in
    let from = data_start bytes span before in
    let to = data_end bytes span after in
    record {
      bytes = slice_range bytes from to;
      span = record { offset = from; len = to - from };
      line = line_of bytes span.offset - before;
      column = if before == 0 then column_of bytes span.offset else 0;
      line_count = terminators_in bytes from to;
      name = source.name;
      language = source.language;
    }
