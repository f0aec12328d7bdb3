use Rattle.std.proofs.Common.{◌≡◌, ◌∙◌, ◌+◌, ◌<◌, ◌≤◌, min, ap, ap₂, arith, drop, length, length-drop, length-take}
use Rattle.std.proofs.Common.{refl, sym, take}
use Rattle.miette_runs.specs.steps.Cells.{code_columns}
use Rattle.miette_text.specs.steps.Ends.{code_after, part_len, solid_len}
use Rattle.miette_text.specs.views.Cutting.{word_cuts}
use Rattle.miette_text.proofs.FirstRow.{after-last}
use Rattle.miette_text.proofs.SolidRuns.{solid-columns, solid-least, solid-part}
use Rattle.miette_text.proofs.wrapping.word_parts.first_part.Goals as goal

pub returns-clause-len : goal.returns-clause-len
returns-clause-len g c = λ separator.
    let cuts = word_cuts separator c.args.cuts in
    let cs = g.C.Codes.codes c.args.codes in
    let first = c.args.first in
    let n = c.solid_len-n.result in
    let stop = g.T.WordEnd.stop in
    let least : n ≡ min (solid_len cs) c.args.cuts.narrow = c.solid_len-n.ensures.value ∙ ap solid_len c.front.ensures
    ∙ solid-least c.args.cuts.narrow c.min-most.result cs
    (c.min-most.ensures ∙ ap (λ k. min k c.args.cuts.narrow) c.count.ensures) in
    let within : n ≤ length cs = omega (
      arith,
      c.solid_len-n.ensures.within,
      ap length c.front.ensures,
      length-take c.min-most.result cs,
    ) in
    let some : 0 < n = omega (arith, c.if-n-eq0.false) in
    let h : n ≤ solid_len cs = omega (arith, least) in
    let r : c.in_ok-rest.rest.len ≡ part_len stop cuts (code_after first n cs) n (drop n cs) =
    c.in_ok-rest.ensures.len separator
    ∙ ap₂ (λ b xs. part_len stop cuts b n xs) (c.at-last.ensures ∙ after-last first n 0 cs some within)
    c.from.ensures in
    ap (λ k. n + k) r
    ∙ sym (solid-part stop g.met.T.WordEnd.solid cuts first 0 n n cs (omega arith) h (omega (arith, least)))

pub returns-clause-columns : goal.returns-clause-columns
returns-clause-columns g c =
    let cs = g.C.Codes.codes c.args.codes in
    let n = c.solid_len-n.result in
    let m = c.in_ok-rest.rest.len in
    let least : n ≡ min (solid_len cs) c.args.cuts.narrow = c.solid_len-n.ensures.value ∙ ap solid_len c.front.ensures
    ∙ solid-least c.args.cuts.narrow c.min-most.result cs
    (c.min-most.ensures ∙ ap (λ k. min k c.args.cuts.narrow) c.count.ensures) in
    let h : n ≤ solid_len cs = omega (arith, least) in
    c.in_ok-rest.ensures.columns ∙ ap (λ xs. n + code_columns (take m xs)) c.from.ensures
    ∙ solid-columns n m (n + m) cs refl h

pub returns-clause-within : goal.returns-clause-within
returns-clause-within g c =
    let cs = g.C.Codes.codes c.args.codes in
    let within : c.solid_len-n.result ≤ length cs = omega (
      arith,
      c.solid_len-n.ensures.within,
      ap length c.front.ensures,
      length-take c.min-most.result cs,
    ) in
    omega (arith, within, c.in_ok-rest.ensures.within, ap length c.from.ensures, length-drop c.solid_len-n.result cs)
