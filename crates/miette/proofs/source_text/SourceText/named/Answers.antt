use Rattle.std.proofs.Common.{ap}
use Rattle.std.specs.Prelude.{IsUtf8}
use Rattle.std.proofs.lemmas.Str.{IsUtf8-string_bytes}
use Rattle.miette_protocol.specs.rules.Reading.{Source}
use Rattle.miette.proofs.Texts.{text_made}
use Rattle.miette.proofs.source_text.SourceText.named.Goals as goal

pub invariant_of-result : goal.invariant_of-result
invariant_of-result c =
    let utf8 : IsUtf8 c.into_bytes.result.items = rw c.into_bytes.ensures.value (IsUtf8-string_bytes c.args.text) in
    let is = c.in_ok-source.ensures in
    text_made _ c.into_bytes.result.items (ap (λ (s : Source). s.bytes) is) (ap (λ (s : Source). s.always_reads) is)
    utf8
