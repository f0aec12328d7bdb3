use Rattle.miette_style.specs.views.Printouts.{◌⊕◌}
use Rattle.std.proofs.Common.{◌∙◌, ap}
use Rattle.std.specs.Str.{chars}
use Rattle.std.proofs.lemmas.Str.{IsUtf8-from_ascii, chars-IsAscii}
use Rattle.std.proofs.lemmas.Result.{on_ok_weaker}
use Rattle.miette_style.specs.views.Tokens.{text_tokens}
use Rattle.miette_snippet_rules.proofs.tabs.push_ascii.Goals as goal

pub unreachable-requires : goal.unreachable-requires
unreachable-requires g c = c.in_default.ensures.cases.0 (IsUtf8-from_ascii c.args.bytes.now c.requires)

pub returns : goal.returns
returns g c =
    on_ok_weaker c.push_str.result (λ h. h ∙ ap (λ x. c.args.page.now ⊕ text_tokens x)
    (ap chars c.in-Ok.ensures.cases.0 ∙ chars-IsAscii c.args.bytes.now c.requires)) c.push_str.ensures
