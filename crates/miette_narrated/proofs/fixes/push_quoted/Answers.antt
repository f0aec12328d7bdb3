use Rattle.std.proofs.Common.{ap, ◌∙◌, ◌++◌, ◌∷◌, [], string_bytes}
use Rattle.std.proofs.lemmas.Result.{on_ok_weaker}
use Rattle.json.specs.Token.{string}
use Rattle.miette_narrated.proofs.Fixing.{quoted_put}
use Rattle.miette_narrated.proofs.fixes.push_quoted.Goals as goal

pub returns : goal.returns
returns c =
    let written = c.string.new.self in
    on_ok_weaker c.push_decoded.result (λ h. quoted_put (string_bytes c.args.out.now)
    (string_bytes c.push_decoded.new.out)
    written.before c.into_inner-written.result.items c.as_slice.result.now c.args.text.now written.tokens
    (c.string.ensures.room.0 ∙ c.new-writer.ensures.before ∙ c.new.ensures.items)
    (c.in_ok-string.ensures.ok ∙ ap (λ ts. ts ++ string c.args.text.now ∷ []) c.new-writer.ensures.tokens)
    c.into_inner-written.ensures.items c.into_inner-written.ensures.utf8 c.as_slice.ensures.value h)
    c.push_decoded.ensures
