use Rattle.std.proofs.Common.{ℕ, List, ap, ◌∙◌, arith, rules}
use Rattle.miette_positions.specs.declared.position.PositionEncoding.TheVariants.{Utf16}
use Rattle.miette_positions.specs.rules.Regions.{EncodedSource}
use Rattle.miette_protocol.specs.rules.Reading.{Source, Contents}
use Rattle.miette_tree.specs.views.Owned.{ref_source}
use Rattle.miette_tree.proofs.WholeReads.{read_whole}
use Rattle.miette_brief.proofs.whole_source.read_whole_source.Goals as goal

pub returns-in_ok-index-in-Ok : goal.returns-in_ok-index-in-Ok
returns-in_ok-index-in-Ok g c =
    let source : Source = ref_source g.S.SourceCode.source c.args.source in
    let whole = read_whole source c.new-begin.result _ c.data.result.now (search rules) c.in-Ok.ensures.1 c.data.ensures
    (omega (arith, c.data.type_inv.1)) in
    let placed : List ℕ → EncodedSource = λ bs. record { source = bs; encoding = Utf16 } in
    record {
      name = c.name.ensures ∙ ap (λ (it : Contents). it.name) c.in-Ok.ensures.1;
      index = c.in_ok-index-in-Ok.ensures ∙ ap placed whole;
    }
