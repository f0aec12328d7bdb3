use Rattle.std.proofs.Common.{rules, ◌≡◌, false, None, map, string_bytes, codes, refl, sym}
use Rattle.miette_lsp.specs.rules.LogWords.{logging_of}
use Rattle.miette_program.specs.rules.OptionWords.{parsed_arguments}
use Rattle.miette_show.specs.views.Asked.{front_of}
use Rattle.miette_show.proofs.RequestSteps.{asked-draw, not-drawn}
use Rattle.miette_show.proofs.request.read_request.Goals as goal

pub returns-in_err-settings-clause-usage : goal.returns-in_err-settings-clause-usage
returns-in_err-settings-clause-usage g c =
    λ usage.
    let front = front_of c.args.front in
    let fixes : false ≡ front.fix = search rules in
    let log : logging_of (codes "show") front.options ≡ None = search rules in
    let same : map string_bytes c.as_slice.result.now ≡ map string_bytes c.in_ok-options.options.items = search rules in
    let wrong : parsed_arguments (map string_bytes c.as_slice.result.now) ≡ None = c.read.ensures.usage (search rules) in
    not-drawn _ front _ _ (asked-draw front fixes None (sym log) refl) c.in_ok-options.ensures same wrong
