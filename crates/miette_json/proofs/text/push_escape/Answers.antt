use Rattle.std.proofs.Common.{◌≡◌, ◌∙◌, ◌++◌, ap, sym, string_bytes, rules}
use Rattle.std.proofs.lemmas.Result.{on_ok_weaker}
use Rattle.miette_json.specs.steps.EscapedBytes.{control_text}
use Rattle.miette_json.proofs.JsonSpelled.{byte_control, control_low}
use Rattle.miette_json.proofs.text.push_escape.Goals as goal
use Rattle.json.specs.Print.{escape_byte}

pub push_control-requires : goal.push_control-requires
push_control-requires c = search (rules, control_low)

pub returns-in_default : goal.returns-in_default
returns-in_default c =
    let control : escape_byte c.args.byte ≡ control_text c.args.byte = search (rules, byte_control) in
    on_ok_weaker c.push_control.result (λ h. h ∙ ap (λ l. string_bytes c.args.out.now ++ l) (sym control))
    c.push_control.ensures
