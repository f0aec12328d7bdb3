use Rattle.std.proofs.Common.{◌≡◌, ◌++◌, ◌∷◌, [], OnOk, arith, string_bytes}
use Rattle.std.proofs.lemmas.Grind.{common_steps}
use Rattle.std.proofs.lemmas.Result.{on_ok_weaker}
use Rattle.miette_style.proofs.CodeLists.{style-pushed}
use Rattle.miette_style.proofs.codes.push_each_code.Goals as goal

pub returns : goal.returns
returns c =
    let ended : OnOk c.push_str-2.result (string_bytes c.push_str-2.new.self ≡ string_bytes c.push_flag-4.new.out
    ++ 109 ∷ []) = grind (arith, common_steps) in
    on_ok_weaker c.push_str-2.result
    (style-pushed c.args.style c.in_ok-has_code.has_code c.in_ok-has_code-2.has_code c.in_ok-has_code-3.has_code
    c.in_ok-has_code-4.has_code _ _ _ _ _ _ _ _ c.in_ok-has_code.ensures.some c.in_ok-has_code-2.ensures.some
    c.in_ok-has_code-3.ensures.some c.in_ok-has_code-4.ensures.some c.in_ok-push_str.ensures.bytes
    c.in_ok-has_code.ensures.text c.in_ok-has_code-2.ensures.text c.in_ok-has_code-3.ensures.text
    c.in_ok-has_code-4.ensures.text c.in_ok-push_flag.ensures.text)
    ended
