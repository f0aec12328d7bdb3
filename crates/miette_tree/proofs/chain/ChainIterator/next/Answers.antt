use Rattle.std.proofs.Common.{◌≡◌, suc, ◌-◌, ◌∷◌, ◌++◌, map, take, string_bytes, rules, arith}
use Rattle.std.specs.Option.{option_map}
use Rattle.miette_tree.specs.rules.Tree.{head, cause_of}
use Rattle.miette_tree.specs.rules.Chain.{spine_from, spine_below}
use Rattle.miette_tree.specs.views.RemainingChain.{remaining_chain}
use Rattle.miette_tree.specs.views.Report.{tree_of}
use Rattle.miette_tree.proofs.Ends.{first_left, fewer_after}
use Rattle.miette_tree.proofs.chain.ChainIterator.next.Goals as goal

pub returns : goal.returns
returns g c =
    let value = tree_of g.D.Diagnostic.meaning g.S.SourceCode.source in
    let chain = c.args.self.now in
    let at = value c.in-Some.report.now in
    let below = spine_from (option_map (λ r. value r.now) c.cause_report-self.result) in
    let ts = map string_bytes chain.texts.now in
    let one : chain.count ≡ suc (chain.count - 1) = omega (arith, c.if-self-gt0.true) in
    let rest : below ≡ spine_below (cause_of at) = search rules in
    let first : c.message.result.now ≡ (head at).message = search rules in
    let steps : remaining_chain g.D.Diagnostic.meaning g.S.SourceCode.source chain ≡ c.message.result.now
    ∷ (take (chain.count - 1) below ++ ts) =
    rw c.in-Some.is (first_left at below ts chain.count (chain.count - 1) c.message.result.now one rest first) in
    record {
      steps = steps;
      goes = record { on = λ _. (tt, tt, fewer_after _ _ _ steps); keeps = tt; rests = λ _. tt };
    }
