use Rattle.std.proofs.Common.{ap, string_bytes, arith, rules}
use Rattle.std.specs.Option.{option_map}
use Rattle.std.proofs.lemmas.Result.{on_ok_weaker}
use Rattle.miette_protocol.specs.rules.Reading.{Source}
use Rattle.miette_tree.specs.views.Owned.{ref_source}
use Rattle.miette_tree.proofs.WholeReads.{read_whole}
use Rattle.miette_narrated.proofs.Fixing.{over_read}
use Rattle.miette_narrated.proofs.fixes.push_fixes.Goals as goal

pub returns-in-Ok : goal.returns-in-Ok
returns-in-Ok g c =
    let is = ref_source g.S.SourceCode.source in
    let source : Source = is c.in-Some.source in
    let whole = read_whole source c.new-begin.result _ c.data.result.now (search rules) c.in-Ok.ensures.1 c.data.ensures
    (omega (arith, c.data.type_inv.1)) in
    on_ok_weaker c.push_over.result (λ h. over_read (option_map is c.args.source) source c.data.result.now
    c.args.fixes.now (string_bytes c.args.out.now) (string_bytes c.push_over.new.out)
    (ap (option_map is) c.in-Some.is) whole h) c.push_over.ensures
