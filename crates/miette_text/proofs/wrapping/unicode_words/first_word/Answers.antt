use Rattle.std.proofs.Common.{◌≡◌, ◌<◌, ◌≤◌, ◌-◌, ◌∙◌, ℕ, List, ap, arith, length, take}
use Rattle.std.proofs.lemmas.List.{length-take}
use Rattle.miette_runs.specs.steps.Cells.{bare_cells}
use Rattle.miette_text.specs.steps.Ends.{bare_len}
use Rattle.miette_text.proofs.BreakParts.{begun, first-left, first-spaces, not-done}
use Rattle.miette_text.proofs.BreakWords.{piece-some}
use Rattle.miette_text.proofs.PrintedRuns.{printed-fewer}
use Rattle.miette_text.proofs.wrapping.unicode_words.first_word.Goals as goal

-- the letters are among the codes of the word
at-most : (b k : ℕ) (codes front : List ℕ) → b ≤ length front → front ≡ take k codes → b ≤ k
at-most b k codes front within is = omega (arith, within, ap length is, length-take {A = ℕ} k codes)

pub returns-clause-left : goal.returns-clause-left
returns-clause-left g c = λ cuts cells q.
    let codes = g.C.Codes.codes c.args.codes in
    let k = c.word_len-len.result.0 in
    let b = c.bare_len-letters.result in
    let some : 0 < k = omega (arith, c.word_len-len.ensures.len, piece-some c.args.start codes c.requires) in
    let within : b ≤ k = at-most b k codes _ c.bare_len-letters.ensures.within c.front.ensures in
    first-left cuts c.args.start c.word_len-len.result.1 k b cells codes q c.requires c.word_len-len.ensures.len some
    within c.word_len-len.ensures.state
    (c.bare_len-letters.ensures.value ∙ ap (λ xs. bare_len (bare_cells xs)) c.front.ensures)

pub returns-clause-fits : goal.returns-clause-fits
returns-clause-fits g c =
    let codes = g.C.Codes.codes c.args.codes in
    let k = c.word_len-len.result.0 in
    let b = c.bare_len-letters.result in
    let within : b ≤ k = at-most b k codes _ c.bare_len-letters.ensures.within c.front.ensures in (
      omega (arith, c.word_len-len.ensures.within),
      first-spaces k b codes c.word_len-len.ensures.within within
          (c.bare_len-letters.ensures.value ∙ ap (λ xs. bare_len (bare_cells xs)) c.front.ensures),
    )

pub returns-clause-some : goal.returns-clause-some
returns-clause-some g c =
    let codes = g.C.Codes.codes c.args.codes in
    let k = c.word_len-len.result.0 in
    let b = c.bare_len-letters.result in
    let some : 0 < k = omega (arith, c.word_len-len.ensures.len, piece-some c.args.start codes c.requires) in
    let within : b ≤ k = at-most b k codes _ c.bare_len-letters.ensures.within c.front.ensures in
    not-done (begun b (k - b) c.word_len-len.result.1) (omega arith)

pub returns-clause-printed : goal.returns-clause-printed
returns-clause-printed g c = λ h.
    let codes = g.C.Codes.codes c.args.codes in
    let k = c.word_len-len.result.0 in
    let b = c.bare_len-letters.result in
    let within : b ≤ k = at-most b k codes _ c.bare_len-letters.ensures.within c.front.ensures in
    printed-fewer b k codes within (c.word_len-len.ensures.printed h)
