use Rattle.std.proofs.Common.{◌<◌, ◌-◌, Bor, Option, ap, sym, ◌∙◌, arith, option_map, string_bytes}
use Rattle.serde_json.specs.View.{view}
use Rattle.serde_json.specs.declared.value.Value.{Value}
use Rattle.miette_read_sarif.specs.rules.Bases.{after_base, base_uri, in_folder}
use Rattle.miette_read_sarif.proofs.BaseSteps.{base_step}
use Rattle.miette_read_sarif.proofs.Returned.{returned}
use Rattle.miette_read_sarif.proofs.bases.+base_uri.Goals as goal

pub returns : goal.returns
returns t c =
    let look = λ (v : Bor Value). view v.now in
    let most = c.args.most in
    let bases = option_map look c.args.bases in
    let base = view c.in-Some.base.now in
    let some : 0 < most = omega (arith, c.if-most-eq0.false) in
    returned c.in_folder.result (λ uri. string_bytes uri) _ _
    (ap in_folder (c.in_ok-uri.ensures
    ∙ ap (λ front. after_base front c.own_uri.result.now)
    (c.in_ok-front.ensures ∙ ap (base_uri (most - 1) bases) c.base_of.ensures)
    ∙ ap (after_base (base_uri (most - 1) bases _)) c.own_uri.ensures)
    ∙ sym (base_step most bases base some)
    ∙ ap (λ (o : Option (Bor Value)). base_uri most bases (option_map look o)) (sym c.in-Some.is)) c.in_folder.ensures
