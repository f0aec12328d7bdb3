use Rattle.std.proofs.Common.{◌≡◌, ◌∙◌, ◌+◌, ◌<◌, ◌++◌, ℕ, List, ap, arith, drop, length, length-drop, sym}
use Rattle.std.proofs.Common.{take}
use Rattle.std.proofs.lemmas.List.{take_rest}
use Rattle.std.proofs.lemmas.Result.{on_ok_weaker}
use Rattle.miette_runs.specs.views.Interleaving.{interleaving, left_at}
use Rattle.miette_text.proofs.Filling.{codes_of_row, last-filled, line_rows, next-filled, tags_from}
use Rattle.miette_text.proofs.Joining.{text-printed}
use Rattle.miette_text.specs.rules.Wrapping.{Cuts, text_lines}
use Rattle.miette_runs.specs.declared.runs.sign.Tag.{Tag}
use Rattle.miette_runs.specs.rules.Sequences.{Token}
use Rattle.miette_text.specs.steps.Ends.{line_len}
use Rattle.miette_text.specs.views.Cutting.{word_cuts}
use Rattle.miette_text.proofs.Counts.{counted-below, counted-within, starts-within}
use Rattle.miette_text.proofs.wrapping.lines.push_filled.Goals as goal

-- what stands after a line's rows, and which tags are left, where the line's codes are those up to its end
rows-here : (cuts : Cuts) (indent : List Token) (room room' s n : ℕ) (cs front : List ℕ) (ms : List Tag) (o o1 : List ℕ)
    → o1 ≡ o ++ line_rows cuts indent room room' s (drop s front) ms → front ≡ take (s + n) cs
    → o1 ≡ o ++ line_rows cuts indent room room' s (codes_of_row s n cs) ms
rows-here cuts indent room room' s n cs front ms o o1 text is =
    text ∙ ap (λ xs. o ++ line_rows cuts indent room room' s (drop s xs) ms) is

left-here : (s n m : ℕ) (cs front : List ℕ) (ms : List Tag) → drop m ms ≡ left_at s (drop s front) ms
    → front ≡ take (s + n) cs → drop m ms ≡ left_at s (codes_of_row s n cs) ms
left-here s n m cs front ms left is = left ∙ ap (λ xs. left_at s (drop s xs) ms) is

pub overflow_add-end : goal.overflow_add-end
overflow_add-end g c =
    let l = c.rest in
    let n = c.line_len-n in
    let below = counted-below l.start n.result _ _ l.invariant.within c.from.ensures n.ensures.within _
    c.count-all.ensures in
    omega (arith, below)

pub front-requires : goal.front-requires
front-requires g c =
    let n = c.line_len-n in
    counted-within c.rest.start n.result _ _ c.rest.invariant.within c.from.ensures n.ensures.within

pub push_rows-requires : goal.push_rows-requires
push_rows-requires g c =
    let l = c.rest in
    let n = c.line_len-n in
    starts-within l.start n.result _ _ l.invariant.within c.from.ensures n.ensures.within _ c.front.ensures

pub returns-then-end-all : goal.returns-then-end-all
returns-then-end-all g c =
    let under = c.args.under in
    let indent = interleaving 0 under.further.codes.now under.further.tags.now in
    let cs = g.C.Codes.codes c.args.text.codes in
    let all = c.args.text.tags.now in
    let cuts = word_cuts g.W.WordParts.separator c.args.cuts in
    let s = c.rest.start in
    let n = c.line_len-n.result in
    let k = c.rest.used in
    let m = c.in_ok-inside.inside in
    let o = g.S.Canvas.written c.rest.out in
    let is : n ≡ line_len (drop s cs) = c.line_len-n.ensures.value ∙ ap line_len c.from.ensures in
    let front = g.C.Codes.codes c.front.result in
    let rows = rows-here cuts indent c.rest.room under.further_room s n cs front (tags_from k all) o
    (g.S.Canvas.written c.push_rows.new.out) c.in_ok-inside.ensures.text c.front.ensures in
    let left = left-here s n m cs front (tags_from k all) c.in_ok-inside.ensures.left c.front.ensures in
    on_ok_weaker c.push_tags.result (λ h. last-filled cuts indent c.rest.room under.further_room s n k m cs all o
    (g.S.Canvas.written c.push_rows.new.out) (g.S.Canvas.written c.push_tags.new.out) is
    (omega (arith, c.if-end-all.true, c.count-all.ensures)) rows left h
    ∙ c.rest.invariant.printed
    ∙ ap (λ us. g.S.Canvas.written c.args.out.now ++ us)
    (sym (text-printed cuts under.room under.further_room indent (text_lines (interleaving 0 cs all)))))
    c.push_tags.ensures

pub rest-preserved : goal.rest-preserved
rest-preserved g c =
    let under = c.args.under in
    let indent = interleaving 0 under.further.codes.now under.further.tags.now in
    let cs = g.C.Codes.codes c.args.text.codes in
    let all = c.args.text.tags.now in
    let cuts = word_cuts g.W.WordParts.separator c.args.cuts in
    let s = c.rest.start in
    let n = c.line_len-n.result in
    let k = c.rest.used in
    let m = c.in_ok-inside.inside in
    let o = g.S.Canvas.written c.rest.out in
    let less : n < length (drop s cs) = omega (
      arith,
      c.line_len-n.ensures.within,
      c.if-end-all.false,
      c.count-all.ensures,
      c.rest.invariant.within,
      ap length c.from.ensures,
      length-drop s cs,
    ) in
    let is : n ≡ line_len (drop s cs) = c.line_len-n.ensures.value ∙ ap line_len c.from.ensures in
    let front = g.C.Codes.codes c.front.result in
    let rows = rows-here cuts indent c.rest.room under.further_room s n cs front (tags_from k all) o
    (g.S.Canvas.written c.push_rows.new.out) c.in_ok-inside.ensures.text c.front.ensures in
    let left = left-here s n m cs front (tags_from k all) c.in_ok-inside.ensures.left c.front.ensures in
    record {
      printed =
          next-filled cuts indent c.rest.room under.further_room s n k m c.in_ok-after.after cs all o
          (g.S.Canvas.written c.push_rows.new.out) (g.S.Canvas.written c.push_signs.new.out)
          (g.S.Canvas.written c.push_break.new.out) is less rows left c.in_ok-after.ensures.text
          c.in_ok-after.ensures.left c.in_ok-push_break.ensures
          ∙ c.rest.invariant.printed;
      within = omega (arith, less, length-drop s cs);
      marked = omega (
        arith,
        c.rest.invariant.marked,
        c.in_ok-inside.ensures.within,
        c.in_ok-after.ensures.within,
        ap length (take_rest all k),
        ap length (take_rest all (k + m)),
        length-drop k all,
        length-drop (k + m) all,
      );
    }
