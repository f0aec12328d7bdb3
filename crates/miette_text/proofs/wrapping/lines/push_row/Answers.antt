use Rattle.std.proofs.Common.{◌≡◌, ◌∙◌, ◌-◌, ◌<◌, ◌≤◌, ◌++◌, ℕ, List, ap, ap₂, append_assoc, arith, drop, drop-drop}
use Rattle.std.proofs.Common.{length, length-drop, sym, take}
use Rattle.std.proofs.lemmas.List.{take_rest}
use Rattle.miette_runs.specs.rules.Cells.{piece_text}
use Rattle.miette_runs.specs.steps.Cells.{bare_cells}
use Rattle.miette_runs.specs.views.Interleaving.{beyond, cells_at, left_at, tags_spelled, upto}
use Rattle.miette_text.proofs.BareRows.{bare-left, bare-row, spaced-left, spaced-row}
use Rattle.miette_text.specs.steps.Ends.{bare_len}
use Rattle.miette_text.proofs.wrapping.lines.push_row.Goals as goal

-- `n` codes of a list from `s` on stand between that place and its end
after-within : (s n : ℕ) (cs codes : List ℕ) → codes ≡ drop s cs → n ≤ length codes → n ≤ length cs - s
after-within s n cs codes is within = omega (arith, within, ap length is, length-drop s cs)

pub overflow_add-end : goal.overflow_add-end
overflow_add-end g c = omega (
  arith,
  c.bare_len-bare.ensures.within,
  ap length c.from-codes.ensures,
  length-drop c.args.start (g.C.Codes.codes c.args.row.codes),
  c.count-all.ensures,
)

pub overflow_sub-all : goal.overflow_sub-all
overflow_sub-all g c = omega (
  arith,
  c.bare_len-bare.ensures.within,
  ap length c.from-codes.ensures,
  length-drop c.args.start (g.C.Codes.codes c.args.row.codes),
  c.count-all.ensures,
  c.if-end-all.false,
)

pub returns-then-end-all-clause-text : goal.returns-then-end-all-clause-text
returns-then-end-all-clause-text g c =
    let cs = g.C.Codes.codes c.args.row.codes in
    let ms = c.args.row.tags.now in
    let s = c.args.start in
    let n = c.bare_len-bare.result in
    let q = c.from-codes.ensures in
    let value : n ≡ bare_len (bare_cells (drop s cs)) = c.bare_len-bare.ensures.value
    ∙ ap (λ us. bare_len (bare_cells us)) q in
    let long : length (drop s cs) ≤ n = omega (arith, c.if-end-all.true, c.count-all.ensures, length-drop s cs) in
    c.in_ok-used.ensures.text
    ∙ ap (λ us. g.S.Canvas.written c.args.out.now ++ piece_text (cells_at s us ms)) (c.front.ensures ∙ ap (take n) q)
    ∙ ap (λ us. g.S.Canvas.written c.args.out.now ++ us) (bare-row s n (drop s cs) ms value long)

pub returns-then-end-all-clause-left : goal.returns-then-end-all-clause-left
returns-then-end-all-clause-left g c =
    let cs = g.C.Codes.codes c.args.row.codes in
    let ms = c.args.row.tags.now in
    let s = c.args.start in
    let n = c.bare_len-bare.result in
    let long : length (drop s cs) ≤ n = omega (arith, c.if-end-all.true, c.count-all.ensures, length-drop s cs) in
    c.in_ok-used.ensures.left
    ∙ ap (λ us. left_at s us ms) (c.front.ensures ∙ ap (take n) c.from-codes.ensures)
    ∙ bare-left s n (drop s cs) ms long

pub returns-clause-text : goal.returns-clause-text
returns-clause-text g c =
    let cs = g.C.Codes.codes c.args.row.codes in
    let ms = c.args.row.tags.now in
    let s = c.args.start in
    let n = c.bare_len-bare.result in
    let q = c.from-codes.ensures in
    let value : n ≡ bare_len (bare_cells (drop s cs)) = c.bare_len-bare.ensures.value
    ∙ ap (λ us. bare_len (bare_cells us)) q in
    let b = after-within s n cs _ q c.bare_len-bare.ensures.within in
    let less : n < length (drop s cs) = omega (arith, c.if-end-all.false, c.count-all.ensures, length-drop s cs, b) in
    let own = c.front.ensures ∙ ap (take n) q in
    let row : List ℕ = piece_text (cells_at s (take n (drop s cs)) ms) in
    let left = left_at s (take n (drop s cs)) ms in
    let last : c.count-all.result - 1 ≡ length cs - 1 = ap (λ k. k - 1) c.count-all.ensures in
    c.in_ok-dropped.ensures.text
    ∙ ap (λ k. g.S.Canvas.written c.push_cells.new.out ++ tags_spelled (upto k
    (take (length ms - c.in_ok-used.used) (drop c.in_ok-used.used ms)))) last
    ∙ ap₂ (λ us vs. us ++ tags_spelled (upto (length cs - 1) vs)) (c.in_ok-used.ensures.text
    ∙ ap (λ us. g.S.Canvas.written c.args.out.now ++ piece_text (cells_at s us ms)) own)
    (take_rest ms c.in_ok-used.used ∙ c.in_ok-used.ensures.left ∙ ap (λ us. left_at s us ms) own)
    ∙ append_assoc (g.S.Canvas.written c.args.out.now) row (tags_spelled (upto (length cs - 1) left))
    ∙ ap (λ us. g.S.Canvas.written c.args.out.now ++ us) (spaced-row s n cs ms value less)

pub returns-clause-left : goal.returns-clause-left
returns-clause-left g c =
    let cs = g.C.Codes.codes c.args.row.codes in
    let ms = c.args.row.tags.now in
    let s = c.args.start in
    let n = c.bare_len-bare.result in
    let k = c.in_ok-used.used in
    let q = c.from-codes.ensures in
    let b = after-within s n cs _ q c.bare_len-bare.ensures.within in
    let less : n < length (drop s cs) = omega (arith, c.if-end-all.false, c.count-all.ensures, length-drop s cs, b) in
    sym (drop-drop c.in_ok-dropped.dropped k ms)
    ∙ ap (drop c.in_ok-dropped.dropped) (sym (take_rest ms k))
    ∙ c.in_ok-dropped.ensures.left
    ∙ ap₂ (λ i vs. beyond i vs) (ap (λ i. i - 1) c.count-all.ensures) (take_rest ms k ∙ c.in_ok-used.ensures.left
    ∙ ap (λ us. left_at s us ms) (c.front.ensures ∙ ap (take n) q))
    ∙ spaced-left s n cs ms less
