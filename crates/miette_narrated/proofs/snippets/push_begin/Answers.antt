use Rattle.std.proofs.Common.{ap, ◌∙◌, ◌++◌, ◌+◌, string_bytes, codes}
use Rattle.std.specs.Prelude.{decimal}
use Rattle.std.proofs.lemmas.Result.{on_ok_weaker}
use Rattle.miette_narrated.specs.rules.Snippets.{for_name_text}
use Rattle.miette_tree.proofs.Written.{where_written}
use Rattle.miette_narrated.proofs.Putting.{begin_put}
use Rattle.miette_narrated.proofs.snippets.push_begin.Goals as goal

pub returns : goal.returns
returns c =
    let contents = c.args.contents.now in
    on_ok_weaker c.push_str-2.result (λ h. begin_put (string_bytes c.args.out.now) (string_bytes c.push_str.new.self)
    (string_bytes c.push_name.new.out) (string_bytes c.push_place.new.out) (string_bytes c.push_place-2.new.out)
    (string_bytes c.push_str-2.new.self)
    (codes "Begin snippet") (for_name_text contents.name) (codes " starting at line ") (decimal (contents.line + 1))
    (codes ", column ") (decimal (contents.column + 1))
    c.in_ok-push_str.ensures.bytes
    (c.in_ok-push_name.ensures ∙ ap (λ n. string_bytes c.push_str.new.self ++ for_name_text n) c.name.ensures)
    (c.in_ok-push_place.ensures ∙ ap (λ n. string_bytes c.push_name.new.out
    ++ (codes " starting at line " ++ decimal (n + 1))) c.line.ensures)
    (c.in_ok-push_place-2.ensures ∙ ap (λ n. string_bytes c.push_place.new.out
    ++ (codes ", column " ++ decimal (n + 1))) c.column.ensures)
    h) (where_written c.push_str-2.result _ _ _ c.push_str-2.ensures.bytes)
