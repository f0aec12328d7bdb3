-- The read of a whole source: as many lines after it as can be asked for, more than a source that is in memory has.
use Rattle.std.proofs.Common.{◌≡◌, ℕ, ◌+◌, ◌-◌, ◌<◌, ◌≤◌, false, true, List, length, Option, Some, None, refl}
use Rattle.std.proofs.Common.{ap, ap₂, ◌∙◌, arith, inl, inr}
use Rattle.std.specs.Prelude.{slice_range}
use Rattle.std.proofs.lemmas.Bool.{cases_lt}
use Rattle.std.proofs.lemmas.List.{take_all}
use Rattle.miette_protocol.specs.declared.error.MietteError.{MietteError}
use Rattle.miette_protocol.specs.declared.error.MietteError.TheVariants.{IoError, OutOfBounds}
use Rattle.miette_protocol.specs.rules.Outcome.{IsReadError}
use Rattle.miette_protocol.specs.rules.Reading.{Source, Span, Contents, contents_of, data_end, data_start, reading_end}
use Rattle.miette_protocol.proofs.Wholes.{end_within, start_is, end_is}
use Rattle.miette_lines.specs.rules.Lines.{line_of, line_start, line_end}
use Rattle.miette_lines.proofs.Parts.{part_length}
use Rattle.miette_lines.proofs.Places.{line_of_none, line_of_le, line_of_end, line_end_past, line_start_first}
use Rattle.miette_tree.specs.rules.Reads.{MayMeet}

-- the span that is read
abbrev pub nowhere : Span
nowhere = record { offset = 0; len = 0 }

-- `most` lines of context reach the end of a source of which fewer bytes were read
reaches_end : (source : Source) (before most : ℕ) → data_start source.bytes nowhere before ≡ 0 → 1 ≤ most
    → length (contents_of source nowhere before most).bytes < most
    → (contents_of source nowhere before most).bytes ≡ source.bytes
reaches_end source before most start some small =
    let bytes : List ℕ = source.bytes in
    let from : ℕ = data_start bytes nowhere before in
    let to : ℕ = data_end bytes nowhere most in
    let k : ℕ = line_of bytes (reading_end bytes nowhere) + most in
    let end : to ≡ line_end bytes k = end_is bytes nowhere most some in
    let size : length (slice_range bytes from to) ≡ to - from =
    part_length bytes from to (end_within bytes nowhere most) in
    let few : to < most = omega (arith, size, small, start) in
    let full : to ≡ length bytes = elim (cases_lt k (line_of bytes (length bytes))) [
      | inl g ↦ absurd (omega (arith, few, end, line_of_le bytes (line_end bytes k) (k + 1) (line_of_end bytes k g)))
      | inr g ↦ end ∙ line_end_past bytes k (omega (arith, g))
    ] in
    ap₂ (slice_range bytes) start full ∙ take_all (length bytes - 0) bytes (omega arith)

-- the contents of such a read have the bytes of the source
pub contents_whole : (source : Source) (before : ℕ) (span : Span) (contents : Contents) (bytes : List ℕ)
    → data_start source.bytes nowhere before ≡ 0 → span ≡ nowhere
    → contents ≡ contents_of source span before 18446744073709551615 → bytes ≡ contents.bytes
    → length bytes < 18446744073709551615 → bytes ≡ source.bytes
contents_whole source before span contents bytes start at gives is small =
    let most : ℕ = 18446744073709551615 in
    let same : bytes ≡ (contents_of source nowhere before most).bytes =
    is ∙ ap (λ (it : Contents). it.bytes) (gives ∙ ap (λ s. contents_of source s before most) at) in
    let few : length (contents_of source nowhere before most).bytes < most = omega (arith, ap length same, small) in
    same ∙ reaches_end source before most start (omega arith) few

-- the same with a line in front
pub read_whole : (source : Source) (span : Span) (contents : Contents) (bytes : List ℕ) → span ≡ nowhere
    → contents ≡ contents_of source span 1 18446744073709551615 → bytes ≡ contents.bytes
    → length bytes < 18446744073709551615 → bytes ≡ source.bytes
read_whole source span contents bytes at gives is small =
    let first : line_of source.bytes 0 - 1 ≡ 0 = omega (arith, line_of_none source.bytes) in
    let start : data_start source.bytes nowhere 1 ≡ 0 = start_is source.bytes nowhere 1 (omega arith)
    ∙ ap (line_start source.bytes) first ∙ line_start_first source.bytes in
    contents_whole source 1 span contents bytes start at gives is small

-- a read that is refused meets a fault
pub fault_met : (source : Source) (e : MietteError) → IsReadError source nowhere e → source.always_reads ≡ false
fault_met source OutOfBounds h = absurd (h (record { begins = omega arith; ends = omega arith }))
fault_met source (IoError x) h = h

-- none need meet one
pub never_fails : (source : Option Source) → MayMeet source false
never_fails None = refl
never_fails (Some source) = λ t. (let no : false ≡ true = t in cc)
