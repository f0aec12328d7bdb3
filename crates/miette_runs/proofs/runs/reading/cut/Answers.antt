use Rattle.std.proofs.Common.{◌≡◌, ◌∙◌, ◌+◌, ◌-◌, ◌++◌, ◌∷◌, [], ap, arith, drop, sym, take}
use Rattle.miette_runs.specs.rules.Sequences.{Sequence, sequence_len, tokens}
use Rattle.miette_runs.proofs.Counting.{cut_sequence}
use Rattle.miette_runs.proofs.OpenCommands.{open_after}
use Rattle.miette_runs.proofs.runs.reading.cut.Goals as goal

pub rest-preserved : goal.rest-preserved
rest-preserved c =
    let cs = c.args.codes.now in
    let i = c.rest.i in
    let n = c.sequence_at-len.result in
    let found = c.rest.found in
    let taken : take ((i + n) - i) (drop i cs) ≡ take n (drop i cs) = ap (λ k. take k (drop i cs)) (omega arith) in
    let is : sequence_len (drop i cs) ≡ n = sym c.sequence_at-len.ensures.value in
    record {
      cut =
          ap (λ ts. ts ++ tokens (drop (i + n) cs)) (c.in_ok-push_codes_as_sign.ensures.tokens
          ∙ ap (λ s. found ++ Sequence s ∷ []) taken)
          ∙ cut_sequence found cs i n (omega arith) is
          ∙ c.rest.invariant.cut;
      within = omega (arith, c.sequence_at-len.ensures.within);
      known = open_after cs i n c.rest.unfinished c.sequence_at-len.ensures.value c.rest.invariant.known;
    }
