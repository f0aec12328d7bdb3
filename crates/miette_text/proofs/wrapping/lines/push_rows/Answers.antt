use Rattle.std.proofs.Common.{◌≡◌, ◌∙◌, ◌+◌, ◌-◌, ◌<◌, ◌≤◌, ◌++◌, [], ap, ap₂, arith, drop, drop-drop, length}
use Rattle.std.proofs.Common.{length-drop, subst, sym, take}
use Rattle.std.proofs.lemmas.List.{take_all, take_rest}
use Rattle.miette_runs.specs.rules.Sequences.{spell}
use Rattle.miette_runs.specs.views.Interleaving.{cells_at, left_at, interleaving}
use Rattle.miette_text.proofs.BareRows.{row_text}
use Rattle.miette_text.proofs.Filling.{codes_of_row, first-here, last-row, left-after, next-row, tags_from}
use Rattle.miette_text.proofs.InterleavedCells.{left-parts}
use Rattle.miette_text.proofs.Joining.{piece-printed}
use Rattle.miette_text.specs.views.Cutting.{word_cuts}
use Rattle.miette_text.proofs.Counts.{counted-below, counted-within, starts-within}
use Rattle.miette_text.proofs.wrapping.lines.push_rows.Goals as goal

pub row_len-requires : goal.row_len-requires
row_len-requires g c = subst (λ xs. g.W.WordParts.fits c.rest.words xs) (sym c.from.ensures) c.rest.invariant.fits

pub overflow_add-end : goal.overflow_add-end
overflow_add-end g c =
    let l = c.rest in
    let n = c.in_ok-n in
    let below = counted-below l.start n.n _ _ l.invariant.within c.from.ensures n.ensures.within _
    c.count-all.ensures in
    omega (arith, below)

pub front-requires : goal.front-requires
front-requires g c =
    let n = c.in_ok-n in
    counted-within c.rest.start n.n _ _ c.rest.invariant.within c.from.ensures n.ensures.within

pub push_row-requires : goal.push_row-requires
push_row-requires g c =
    let l = c.rest in
    let n = c.in_ok-n in
    starts-within l.start n.n _ _ l.invariant.within c.from.ensures n.ensures.within _ c.front.ensures

pub returns-then-end-all-clause-text : goal.returns-then-end-all-clause-text
returns-then-end-all-clause-text g c =
    let under = c.args.under in
    let indent = interleaving 0 under.further.codes.now under.further.tags.now in
    let cs = g.C.Codes.codes c.args.line.codes in
    let all = c.args.line.tags.now in
    let s = c.rest.start in
    let n = c.in_ok-n.n in
    let o = g.S.Canvas.written c.rest.out in
    let cuts = word_cuts g.W.WordParts.separator c.args.cuts in
    let left = g.W.WordParts.left c.rest.words cuts in
    let after = g.W.WordParts.left c.in_ok-n.after cuts in
    let row : g.S.Canvas.written c.push_row.new.out ≡ o ++ row_text s (codes_of_row s n cs)
    (tags_from c.rest.used all) =
    c.in_ok-more.ensures.text
    ∙ ap (λ xs. o ++ row_text s (drop s xs) (tags_from c.rest.used all)) c.front.ensures in
    last-row left after (spell indent) c.rest.room under.further_room s n c.rest.used cs all o
    (g.S.Canvas.written c.push_row.new.out)
    (first-here left after c.rest.room n (g.C.Codes.codes c.from.result) (drop s cs) c.from.ensures
    c.in_ok-n.ensures.value) (omega (arith, c.if-end-all.true, c.count-all.ensures)) row
    ∙ c.rest.invariant.printed
    ∙ ap (λ us. g.S.Canvas.written c.args.out.now ++ us) (sym (piece-printed cuts under.room under.further_room
    indent (record { cells = cells_at c.args.first (drop c.args.first cs) all; rest = [] })))

pub returns-then-end-all-clause-left : goal.returns-then-end-all-clause-left
returns-then-end-all-clause-left g c =
    let cs = g.C.Codes.codes c.args.line.codes in
    let all = c.args.line.tags.now in
    let s = c.rest.start in
    let n = c.in_ok-n.n in
    let k = c.rest.used in
    let m = c.in_ok-more.more in
    let more : drop m (tags_from k all) ≡ left_at s (codes_of_row s n cs) (tags_from k all) = c.in_ok-more.ensures.left
    ∙ ap (λ xs. left_at s (drop s xs) (tags_from k all)) c.front.ensures in
    let whole : take n (drop s cs) ≡ drop s cs = take_all n (drop s cs)
    (omega (arith, c.if-end-all.true, c.count-all.ensures, length-drop s cs)) in
    left-after s n k m cs all more ∙ ap (λ xs. left_at s xs (drop k all)) whole ∙ c.rest.invariant.left

pub rest-preserved : goal.rest-preserved
rest-preserved g c =
    let cs = g.C.Codes.codes c.args.line.codes in
    let all = c.args.line.tags.now in
    let s = c.rest.start in
    let n = c.in_ok-n.n in
    let k = c.rest.used in
    let m = c.in_ok-more.more in
    let o = g.S.Canvas.written c.rest.out in
    let long : length (g.C.Codes.codes c.from.result) ≡ length cs - s = ap length c.from.ensures ∙ length-drop s cs in
    let inside : n ≤ length cs - s = omega (arith, c.in_ok-n.ensures.within, long) in
    let marked : k ≤ length all = c.rest.invariant.marked in
    let cuts = word_cuts g.W.WordParts.separator c.args.cuts in
    let first = g.W.WordParts.left c.rest.words cuts in
    let after = g.W.WordParts.left c.in_ok-n.after cuts in
    let less : s + n < length cs = omega (
      arith,
      c.if-end-all.false,
      c.count-all.ensures,
      inside,
      c.rest.invariant.within,
    ) in
    let row : g.S.Canvas.written c.push_row.new.out ≡ o ++ row_text s (codes_of_row s n cs) (tags_from k all) =
    c.in_ok-more.ensures.text ∙ ap (λ xs. o ++ row_text s (drop s xs) (tags_from k all)) c.front.ensures in
    let more : drop m (tags_from k all) ≡ left_at s (codes_of_row s n cs) (tags_from k all) = c.in_ok-more.ensures.left
    ∙ ap (λ xs. left_at s (drop s xs) (tags_from k all)) c.front.ensures in
    let left : drop (k + m) all ≡ left_at s (take n (drop s cs)) (drop k all) = left-after s n k m cs all more in
    let used : m ≤ length (tags_from k all) = c.in_ok-more.ensures.within in
    record {
      printed =
          next-row first after (spell (interleaving 0 c.args.under.further.codes.now c.args.under.further.tags.now))
          c.rest.room c.args.under.further_room s n k m cs all o (g.S.Canvas.written c.push_row.new.out)
          (g.S.Canvas.written c.push_break.new.out) (first-here first after c.rest.room n
          (g.C.Codes.codes c.from.result) (drop s cs) c.from.ensures c.in_ok-n.ensures.value) less row left
          c.in_ok-push_break.ensures
          ∙ c.rest.invariant.printed;
      left =
          ap₂ (left_at (s + n)) (sym (drop-drop n s cs)) left
          ∙ sym (left-parts n s (drop s cs) (drop k all))
          ∙ c.rest.invariant.left;
      fits = subst (λ xs. g.W.WordParts.fits c.in_ok-n.after xs) (ap (drop n) c.from.ensures ∙ drop-drop n s cs)
          c.in_ok-n.ensures.fits;
      within = omega (arith, less);
      marked = omega (arith, ap length (take_rest all k), length-drop k all);
    }

pub rest-smaller : goal.rest-smaller
rest-smaller g c =
    let cs = g.C.Codes.codes c.args.line.codes in
    let s = c.rest.start in
    let long : length (g.C.Codes.codes c.from.result) ≡ length cs - s = ap length c.from.ensures ∙ length-drop s cs in
    let inside : c.in_ok-n.n ≤ length cs - s = omega (arith, c.in_ok-n.ensures.within, long) in
    let less : s + c.in_ok-n.n < length cs = omega (
      arith,
      c.if-end-all.false,
      c.count-all.ensures,
      inside,
      c.rest.invariant.within,
    ) in
    let some : 0 < c.in_ok-n.n = c.in_ok-n.ensures.some (omega (arith, long, less)) in
    omega (arith, some, less)
