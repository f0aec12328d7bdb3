use Rattle.std.proofs.Common.{◌∷◌, ◌++◌, ◌∙◌, ap, subst, sym}
use Rattle.miette_tree.specs.rules.Display.{after_colons}
use Rattle.miette_tree.specs.rules.Tree.{cause_of, causes_of}
use Rattle.miette_tree.specs.views.Report.{tree_of}
use Rattle.miette_tree.proofs.Leading.{LeadsOn, chain_led, leads_further}
use Rattle.miette_tree.proofs.messages.write_causes.Goals as goal

pub loop-next-preserved : goal.loop-next-preserved
loop-next-preserved g c =
    let took = g.W.Write.write_str_gives in
    let value = tree_of g.D.Diagnostic.meaning g.S.SourceCode.source in
    let first = c.args.f.now in
    let here = c.loop-next.f in
    let all = after_colons (causes_of (cause_of (value c.args.report.now))) in
    let next = value c.in-Diagnostic.next.now in
    let rest = after_colons (causes_of (cause_of next)) in
    let left = ap (λ k. after_colons (causes_of k)) (sym c.in-Diagnostic.ensures.value) ∙ chain_led next
    ∙ ap (λ m. (58 ∷ 32 ∷ m) ++ rest) (sym c.message.ensures) in
    leads_further took first here c.write_after_colon.new.f all (58 ∷ 32 ∷ c.message.result.now) rest
    (subst (LeadsOn took first here all) left c.loop-next.invariant) c.in_ok-write_after_colon.ensures
