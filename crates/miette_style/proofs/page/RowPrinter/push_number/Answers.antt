use Rattle.std.proofs.Common.{◌∙◌, ap}
use Rattle.std.proofs.lemmas.Str.{chars-IsAscii}
use Rattle.std.proofs.lemmas.Result.{on_ok_weaker}
use Rattle.miette_style.specs.views.Printouts.{◌⊕◌}
use Rattle.miette_style.specs.views.Tokens.{text_tokens}
use Rattle.miette_style.proofs.page.RowPrinter.push_number.Goals as goal

pub returns : goal.returns
returns g c =
    on_ok_weaker c.push_str.result (λ h. h
    ∙ ap (λ codes. c.args.self.now ⊕ text_tokens codes) (chars-IsAscii c.format.result.now c.format.ensures.ascii
    ∙ c.format.ensures.text)) c.push_str.ensures
