use Rattle.std.proofs.Common.{ap, append_assoc, string_bytes, sym, [], ◌++◌, ◌∙◌, ◌∷◌}
use Rattle.std.proofs.lemmas.Result.{on_ok_weaker}
use Rattle.miette_json.proofs.JsonSpelled.{none_escaped}
use Rattle.miette_json.specs.rules.Writing.{comma}
use Rattle.miette_tree.proofs.Written.{where_written}
use Rattle.miette_json.proofs.writer.push_key.Goals as goal

pub returns : goal.returns
returns c =
    let out = string_bytes c.args.out.now in
    let key = c.args.key.now in
    let start = comma c.args.is_comma_due ++ 34 ∷ [] in
    let end = 34 ∷ 58 ∷ 32 ∷ [] in
    let written = c.in_ok-push_str-2.ensures.bytes ∙ ap (λ l. l ++ key) (c.in_ok-push_str.ensures.bytes
    ∙ ap (λ l. out ++ l) c.quote.ensures) in
    on_ok_weaker c.push_str-3.result (λ h. h ∙ ap (λ l. l ++ end) written
    ∙ append_assoc (out ++ start) key end ∙ append_assoc out start (key ++ end)
    ∙ ap (λ l. out ++ l) (append_assoc (comma c.args.is_comma_due) (34 ∷ []) (key ++ end))
    ∙ ap (λ l. out ++ (comma c.args.is_comma_due ++ 34 ∷ (l ++ end))) (sym (none_escaped key (sym c.requires))))
    (where_written c.push_str-3.result _ _ _ c.push_str-3.ensures.bytes)
