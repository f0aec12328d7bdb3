use Rattle.std.proofs.Common.{◌≡◌, ◌∷◌, ◌++◌, [], map, take, string_bytes}
use Rattle.std.specs.Option.{option_map}
use Rattle.miette_tree.specs.rules.Chain.{spine, spine_from}
use Rattle.miette_tree.specs.views.RemainingChain.{remaining_chain}
use Rattle.miette_tree.specs.views.Report.{tree_of}
use Rattle.miette_tree.proofs.Ends.{last_left, fewer_before}
use Rattle.miette_tree.proofs.chain.ChainDoubleEndedIterator.next_back.Goals as goal

pub returns : goal.returns
returns g c =
    let value = tree_of g.D.Diagnostic.meaning g.S.SourceCode.source in
    let chain = c.args.self.now in
    let xs = spine (value c.in-Some-at.report.now) in
    let last = c.last_within-before in
    let steps : remaining_chain g.D.Diagnostic.meaning g.S.SourceCode.source chain
    ≡ (take last.result.1 (spine_from (option_map (λ r. value r.now) chain.at)) ++ map string_bytes chain.texts.now)
    ++ last.result.0.now ∷ [] =
    rw c.in-Some-at.is (last_left xs chain.texts.now chain.count last.result.1 last.result.0.now
    c.in_default.ensures.cases last.ensures.parts) in
    record {
      steps = steps;
      goes = record { on = λ _. (tt, tt, fewer_before _ _ _ steps); keeps = tt; rests = λ _. tt };
    }
