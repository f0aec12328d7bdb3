-- Where contents begin, the line is known.
use Rattle.std.proofs.Common.{◌≡◌, ℕ, ◌-◌, ◌≤◌, ◌==◌, Bool, true, false, List, length, arith}
use Rattle.std.proofs.Common.{ap, eqb-true, refl, subst, sym, ◌∙◌, if◌then◌else◌}
use Rattle.miette_lines.specs.declared.near.KnownLine.{KnownLine}
use Rattle.miette_lines.specs.rules.Lines.{line_of, line_start}
use Rattle.miette_lines.specs.views.Known.{IsKnown}
use Rattle.miette_lines.proofs.Places.{line_of_start_before, line_start_within}
use Rattle.miette_protocol.specs.rules.Reading.{IsInBounds, Source, Span, contents_of}

begin_known : (bytes : List ℕ) (o n : ℕ) (b : Bool) → o ≤ length bytes → (b ≡ true → n ≡ 0)
    → ((if b then o else line_start bytes (line_of bytes o - n)) ≤ length bytes)
    × (line_of bytes o - n ≡ line_of bytes (if b then o else line_start bytes (line_of bytes o - n)))
begin_known bytes o n true h none = (h, omega (arith, none refl))
begin_known bytes o n false h none =
    (line_start_within bytes (line_of bytes o - n), line_of_start_before bytes o n)

pub contents_known : (source : Source) (span : Span) (before after : ℕ) (known : KnownLine)
    → IsInBounds source.bytes span → known.offset ≡ (contents_of source span before after).span.offset
    → known.line ≡ (contents_of source span before after).line → IsKnown source.bytes known
contents_known source span before after known accepted offset line =
    let begin = begin_known source.bytes span.offset before (before == 0) accepted.begins (λ e. eqb-true before 0 e) in
    record {
      within = subst (λ o. o ≤ length source.bytes) (sym offset) begin.0;
      line = line ∙ begin.1 ∙ ap (line_of source.bytes) (sym offset);
    }
