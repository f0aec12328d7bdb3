use Rattle.std.proofs.Common.{◌≡◌, ◌∙◌, ◌<◌, ◌≤◌, ◌++◌, [], ap, arith, drop, length, length-drop, sym, take}
use Rattle.std.proofs.lemmas.List.{drop_all}
use Rattle.miette_runs.specs.rules.Cells.{piece_text}
use Rattle.miette_runs.specs.views.Interleaving.{cells_at, left_at}
use Rattle.miette_runs.proofs.Weaving.{left-empty, left-none, left-rest, left-step, text-empty, text-none, text-rest}
use Rattle.miette_runs.proofs.Weaving.{text-step}
use Rattle.miette_runs.proofs.runs.cells.push_cells.Goals as goal

pub returns-then-many-eq0-clause-text : goal.returns-then-many-eq0-clause-text
returns-then-many-eq0-clause-text g c = text-empty (g.C.Codes.codes c.args.codes) c.args.tags.now c.args.at
    (g.S.Canvas.written c.args.out.now) (omega (arith, c.count-many.ensures, c.if-many-eq0.true))

pub returns-then-many-eq0-clause-left : goal.returns-then-many-eq0-clause-left
returns-then-many-eq0-clause-left g c = left-empty (g.C.Codes.codes c.args.codes) c.args.tags.now c.args.at
    (omega (arith, c.count-many.ensures, c.if-many-eq0.true))

pub returns-then-left-gap-clause-text : goal.returns-then-left-gap-clause-text
returns-then-left-gap-clause-text g c =
    let cs = g.C.Codes.codes c.args.codes in
    let rest = c.from-rest.ensures in
    let all : length (drop c.loop-n.start cs) ≤ c.saturating_sub-gap.result = omega (
      arith,
      c.if-left-gap.true,
      c.count-left.ensures,
      ap length rest,
    ) in
    c.in_ok-push_to.ensures
    ∙ ap (λ us. g.S.Canvas.written c.loop-n.out ++ us) (rest ∙ text-rest c.loop-n.place c.loop-n.start c.loop-n.n
    c.saturating_sub-gap.result cs c.args.tags.now c.index-tags-n.result c.loop-n-test.true
    c.index-tags-n.is c.saturating_sub-gap.ensures all)
    ∙ c.loop-n.invariant.printed

pub returns-then-left-gap-clause-left : goal.returns-then-left-gap-clause-left
returns-then-left-gap-clause-left g c =
    let cs = g.C.Codes.codes c.args.codes in
    let all : length (drop c.loop-n.start cs) ≤ c.saturating_sub-gap.result = omega (
      arith,
      c.if-left-gap.true,
      c.count-left.ensures,
      ap length c.from-rest.ensures,
    ) in
    left-rest c.loop-n.place c.loop-n.start c.loop-n.n c.saturating_sub-gap.result cs c.args.tags.now
    c.index-tags-n.result c.loop-n-test.true c.index-tags-n.is c.saturating_sub-gap.ensures all
    ∙ c.loop-n.invariant.left

pub loop-n-preserved : goal.loop-n-preserved
loop-n-preserved g c =
    let cs = g.C.Codes.codes c.args.codes in
    let ms = c.args.tags.now in
    let s = c.loop-n.start in
    let p = c.loop-n.place in
    let n = c.loop-n.n in
    let k = c.saturating_sub-gap.result in
    let m = c.index-tags-n.result in
    let rest = c.from-rest.ensures in
    let l : k < length (drop s cs) = omega (arith, c.if-left-gap.false, c.count-left.ensures, ap length rest) in
    let o = g.S.Canvas.written c.loop-n.out in
    record {
      printed =
          text-step o (g.S.Canvas.written c.push_to-in-loop-n.new.out) (g.S.Canvas.written c.push_sign.new.self)
          p s n k cs ms m c.loop-n-test.true c.index-tags-n.is c.saturating_sub-gap.ensures l
          (c.in_ok-push_to-2.ensures ∙ ap (λ us. o ++ us) (c.front.ensures ∙ ap (take k) rest))
          c.in_ok-push_sign.ensures
          ∙ c.loop-n.invariant.printed;
      left = left-step p s n k cs ms m c.loop-n-test.true c.index-tags-n.is c.saturating_sub-gap.ensures l
          ∙ c.loop-n.invariant.left;
      inside = omega (arith, length-drop s cs);
    }

pub returns-clause-text : goal.returns-clause-text
returns-clause-text g c =
    let cs = g.C.Codes.codes c.args.codes in
    let s = c.loop-n.start in
    let none : drop c.loop-n.n c.args.tags.now ≡ [] = drop_all c.loop-n.n c.args.tags.now (omega arith) in
    c.in_ok-push_to-3.ensures
    ∙ ap (λ us. g.S.Canvas.written c.loop-n.out ++ us) (c.from.ensures ∙ sym (text-none c.loop-n.place (drop s cs))
    ∙ ap (λ vs. piece_text (cells_at c.loop-n.place (drop s cs) vs)) (sym none))
    ∙ c.loop-n.invariant.printed

pub returns-clause-left : goal.returns-clause-left
returns-clause-left g c =
    let ms = c.args.tags.now in
    let cs = drop c.loop-n.start (g.C.Codes.codes c.args.codes) in
    drop_all (length ms) ms (omega arith)
    ∙ sym (left-none c.loop-n.place cs)
    ∙ ap (λ vs. left_at c.loop-n.place cs vs) (sym (drop_all c.loop-n.n ms (omega arith)))
    ∙ c.loop-n.invariant.left
