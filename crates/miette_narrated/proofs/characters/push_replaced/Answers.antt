use Rattle.std.proofs.Common.{◌-◌, ◌<◌, take, drop, length, string_bytes, sym, ◌∙◌, rules, eqb-true}
use Rattle.std.proofs.lemmas.List.{nil_from_length, take_rest}
use Rattle.miette_narrated.proofs.DecodedText.{decoded_more, decoded_all}
use Rattle.miette_narrated.proofs.characters.push_replaced.Goals as goal

pub loop-rest-preserved : goal.loop-rest-preserved
loop-rest-preserved c =
    let rest = c.loop-rest.rest.now in
    let size = c.decode_first_char-code.result.1 in
    let some : 0 < length rest = search rules in
    decoded_more (string_bytes c.loop-rest.out) (string_bytes c.push.new.self) rest
    (take (length rest - size) (drop size rest)) c.decode_first_char-code.result.0 size _
    (record {
      some = some;
      left_is = take_rest rest size;
      code_is = c.decode_first_char-code.ensures.code;
      size_is =
          c.decode_first_char-code.ensures.size;
    })
    c.in_ok-push.ensures.bytes c.loop-rest.invariant

pub returns : goal.returns
returns c = decoded_all (string_bytes c.loop-rest.out) c.loop-rest.rest.now _
    (nil_from_length c.loop-rest.rest.now (eqb-true _ _ (sym c.is_empty.ensures ∙ c.loop-rest-test.false)))
    c.loop-rest.invariant
