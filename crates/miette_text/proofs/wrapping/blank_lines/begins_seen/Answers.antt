use Rattle.std.proofs.Common.{◌∙◌, IsUtf8, ap, arith, chars, drop, get_or, subst, sym}
use Rattle.std.proofs.lemmas.Bool.{leb-true}
use Rattle.std.proofs.lemmas.List.{drop_more}
use Rattle.miette_runs.specs.rules.Sequences.{tokens}
use Rattle.miette_text.specs.steps.WholeText.{are_passed}
use Rattle.miette_text.proofs.PassedFronts.{seen_front}
use Rattle.miette_text.proofs.wrapping.blank_lines.begins_seen.Goals as goal

pub returns-then-byte-ge33 : goal.returns-then-byte-ge33
returns-then-byte-ge33 c =
    let bytes = c.as_bytes.result.now in
    let value = c.as_bytes.ensures.value in
    let text : IsUtf8 bytes = subst IsUtf8 (sym value) c.utf8.text in
    λ low blanks. ap (λ bs. are_passed blanks (tokens (chars bs))) (sym value)
    ∙ seen_front bytes (drop 1 bytes) (get_or bytes 0 0) blanks text (drop_more bytes 0 0 (omega arith)) (omega arith)
    (leb-true _ _ low)
