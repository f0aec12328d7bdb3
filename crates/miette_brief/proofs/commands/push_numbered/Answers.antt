use Rattle.std.proofs.Common.{◌++◌, ◌∙◌, sym, ap, codes, string_bytes}
use Rattle.std.proofs.lemmas.Result.{on_ok_weaker}
use Rattle.miette_brief.proofs.Commanding.{number_stays}
use Rattle.miette_brief.proofs.commands.push_numbered.Goals as goal

pub returns : goal.returns
returns c =
    on_ok_weaker c.push_keyed.result (λ h. h
    ∙ ap (λ l. string_bytes c.args.out.now ++ (codes "," ++ (c.args.key.now ++ (codes "=" ++ l))))
    (sym (number_stays c.args.number))) c.push_keyed.ensures
