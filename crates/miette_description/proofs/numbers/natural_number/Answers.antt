use Rattle.std.proofs.Common.{◌≡◌, ℕ, Option, drop, get_or, true, false, ◌==◌, sym, ap, ◌∙◌}
use Rattle.std.specs.Prelude.{unwrap_or}
use Rattle.fast_float.specs.Text.{scan}
use Rattle.serde_json.specs.Data.{Num, unsigned, float}
use Rattle.serde_json.specs.Find.{as_u64, to_float}
use Rattle.serde_json.specs.Read.{number_of, number_from}
use Rattle.miette_description.proofs.NumberSteps.{signed_is, natural_is}
use Rattle.miette_description.proofs.numbers.natural_number.Goals as goal

pub returns-then-has_minus : goal.returns-then-has_minus
unfolding number_of
returns-then-has_minus c =
    let s = c.as_bytes-bytes.result.now in
    let signed : (get_or s 0 0 == 45) ≡ true = sym c.if-has_minus.ensures.value in
    let read : number_of s ≡ number_from true (scan (drop 1 s)) = rw signed in
    let value : Option Num → Option ℕ = λ o. as_u64 (unwrap_or o (float (to_float (unsigned 0)))) in
    sym (ap value (ap number_of (sym c.as_bytes-bytes.ensures.value) ∙ read) ∙ signed_is (scan (drop 1 s)))

pub returns-else-has_minus : goal.returns-else-has_minus
unfolding number_of
returns-else-has_minus c =
    let s = c.as_bytes-bytes.result.now in
    let unsigned_text : (get_or s 0 0 == 45) ≡ false = sym c.if-has_minus.ensures.value in
    let read : number_from false (scan s) ≡ number_of s = rw unsigned_text in
    let value : Option Num → Option ℕ = λ o. as_u64 (unwrap_or o (float (to_float (unsigned 0)))) in
    natural_is c.scan.result c.to_u64.result c.to_u64.ensures
    ∙ ap value (ap (number_from false) c.scan.ensures.parts ∙ read ∙ ap number_of c.as_bytes-bytes.ensures.value)
