use Rattle.std.proofs.Common.{◌≡◌, ◌++◌, ◌+◌, ◌-◌, ◌∙◌, ap, append-nil, append_assoc, arith, chars, replicate, sym}
use Rattle.std.proofs.lemmas.List.{replicate-append-replicate}
use Rattle.miette_style.proofs.page.push_runs.Goals as goal

pub loop-left-init : goal.loop-left-init
loop-left-init g c =
    let old = g.O.Canvas.written c.args.out.now in
    let none : 0 ≡ c.args.many - c.args.many = omega arith in
    record {
      within = omega arith;
      text = sym (append-nil old) ∙ ap (λ n. old ++ replicate n c.args.character) none;
    }

pub loop-left-preserved : goal.loop-left-preserved
loop-left-preserved g c =
    let old = g.O.Canvas.written c.args.out.now in
    let it = c.args.character in
    let done = c.args.many - c.loop-left.left in
    let run = chars c.in-Some.run'.now in
    let next : done + 16 ≡ c.args.many - (c.loop-left.left - 16) = omega (arith, c.loop-left.invariant.within) in
    record {
      within = omega (arith, c.loop-left.invariant.within);
      text =
          c.in_ok-push_str.ensures ∙ ap (λ us. us ++ run) c.loop-left.invariant.text
          ∙ append_assoc old (replicate done it) run
          ∙ ap (λ us. old ++ (replicate done it ++ us)) c.in-Some.ensures
          ∙ ap (λ us. old ++ us) (replicate-append-replicate done 16 it ∙ ap (λ n. replicate n it) next);
    }
