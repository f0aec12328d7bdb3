use Rattle.std.proofs.Common.{◌≡◌, ℕ, ◌-◌, [], ◌++◌, length, map, take, string_bytes, ap, sym, ◌∙◌, arith}
use Rattle.std.proofs.lemmas.List.{take-map}
use Rattle.miette_tree.specs.rules.Tree.{cause_of}
use Rattle.miette_tree.specs.rules.Chain.{spine}
use Rattle.miette_tree.specs.views.Report.{tree_of}
use Rattle.miette_tree.proofs.Ends.{tail, spine_down, tail_down, cut_chain, whole_chain, no_diagnostic}
use Rattle.miette_tree.proofs.tree.Report.chain.Goals as goal

pub returns-then-count : goal.returns-then-count
returns-then-count g c =
    let value = tree_of g.D.Diagnostic.meaning g.S.SourceCode.source in
    let most : ℕ = 18446744073709551615 in
    let full : c.loop-next.count ≡ most = c.if-count.true in
    ap (λ n. take n (spine (value c.args.self.now)) ++ []) full
    ∙ cut_chain (value c.args.self.now) most (omega (
      arith,
      full,
      spine_down (value c.loop-next.at.now),
      c.loop-next.invariant.counted,
    ))

pub returns : goal.returns
returns g c =
    let value = tree_of g.D.Diagnostic.meaning g.S.SourceCode.source in
    let most : ℕ = 18446744073709551615 in
    let at = value c.loop-next.at.now in
    let last = no_diagnostic g.D.Diagnostic.meaning g.S.SourceCode.source c.cause.result (cause_of at)
    c.cause.ensures.value c.in_default.not-Diagnostic in
    let count : c.loop-next.count ≡ length (spine (value c.args.self.now)) =
    omega (arith, last.0, spine_down at, c.loop-next.invariant.counted) in
    let kept : map string_bytes c.first_texts.result.now ≡ take (most - c.loop-next.count)
    (tail (value c.args.self.now)) =
    ap (map string_bytes) c.first_texts.ensures ∙ (sym (take-map string_bytes (most - c.loop-next.count)
    c.cause_texts.result.now)
    ∙ ap (take (most - c.loop-next.count)) (c.cause_texts.ensures
    ∙ (last.1 ∙ (sym (tail_down at) ∙ c.loop-next.invariant.same)))) in
    whole_chain (value c.args.self.now) c.loop-next.count most (map string_bytes c.first_texts.result.now) count
    (omega arith) kept
