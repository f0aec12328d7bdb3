use Rattle.std.proofs.Common.{◌≡◌, ℕ, List, [], ap, ◌∙◌, arith, refl, rules}
use Rattle.std.specs.Prelude.{unwrap_or}
use Rattle.miette_protocol.specs.rules.Reading.{Contents, Source}
use Rattle.miette_tree.specs.views.Owned.{ref_source}
use Rattle.miette_tree.proofs.WholeReads.{nowhere, contents_whole}
use Rattle.miette_sarif.proofs.Reading.{seen_read, unwrapped}
use Rattle.miette_sarif.proofs.snapshots.take_snapshot.Goals as goal
use denote.Ref.{Bor}

pub returns-in_ok-text-in-Ok : goal.returns-in_ok-text-in-Ok
returns-in_ok-text-in-Ok g c =
    let source : Source = ref_source g.S.SourceCode.source c.args.source in
    let begin : c.from.result ≡ nowhere = search rules in
    let whole : c.in_ok-text-in-Ok.text ≡ source.bytes =
    c.in_ok-text-in-Ok.ensures ∙ contents_whole source 0 _ _ _ refl begin c.in-Ok.ensures.1 c.data.ensures
    (omega (arith, c.data.type_inv.1)) in
    let name : c.unwrap_or-name.result.now ≡ unwrap_or source.name [] =
    ap (λ (b : Bor (List ℕ)). b.now) c.unwrap_or-name.ensures ∙ unwrapped c.name.result _ refl
    ∙ ap (λ o. unwrap_or o []) (c.name.ensures ∙ ap (λ (it : Contents). it.name) c.in-Ok.ensures.1) in
    seen_read source c.args.number c.unwrap_or-name.result.now c.in_ok-text-in-Ok.text name whole
