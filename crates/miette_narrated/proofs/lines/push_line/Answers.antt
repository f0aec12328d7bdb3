use Rattle.std.proofs.Common.{string_bytes, codes}
use Rattle.std.specs.Prelude.{decimal}
use Rattle.std.proofs.lemmas.Result.{on_ok_weaker}
use Rattle.miette_narrated.specs.rules.Lines.{characters_text}
use Rattle.miette_narrated.specs.steps.Conversions.{narrated_line}
use Rattle.miette_tree.proofs.Written.{where_written}
use Rattle.miette_narrated.proofs.Putting.{line_put}
use Rattle.miette_narrated.proofs.lines.push_line.Goals as goal

pub returns : goal.returns
returns c =
    let it = narrated_line c.args.it.now in
    on_ok_weaker c.push_str-2.result (λ h. line_put (string_bytes c.args.out.now) (string_bytes c.push_number.new.out)
    (string_bytes c.push_str.new.self) (string_bytes c.push_decoded.new.out) (string_bytes c.push_str-2.new.self)
    (codes "snippet line ") (decimal it.number) (codes ": ") (characters_text it.characters)
    c.in_ok-push_number.ensures c.in_ok-push_str.ensures.bytes c.in_ok-push_decoded.ensures h)
    (where_written c.push_str-2.result _ _ _ c.push_str-2.ensures.bytes)
