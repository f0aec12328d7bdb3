use Rattle.std.proofs.Common.{◌≡◌, ◌∙◌, ◌+◌, ◌≤◌, ap, arith, drop, length, length-drop, sym, take}
use Rattle.miette_runs.specs.steps.Cells.{code_columns}
use Rattle.miette_text.specs.declared.options.WordSeparator.TheVariants.{AsciiSpace}
use Rattle.miette_text.specs.steps.Ends.{gap_len}
use Rattle.miette_text.specs.views.Cutting.{word_cuts}
use Rattle.miette_text.proofs.FirstRow.{after-last, gap-columns, spaced-part, spaced-some}
use Rattle.miette_text.proofs.wrapping.word_parts.SpaceWordsWordParts.part.Goals as goal

pub overflow_add-letters : goal.overflow_add-letters
overflow_add-letters g c =
    let codes = g.C.Codes.codes c.args.codes in
    let n = c.in_ok-letters.letters.len in
    omega (
      arith,
      c.in_ok-letters.ensures.within,
      c.in_ok-letters.ensures.counted,
      c.gap_len-spaces.ensures.within,
      ap length c.from.ensures,
      length-drop n codes,
    )

pub overflow_sub-letters : goal.overflow_sub-letters
overflow_sub-letters g c =
    let codes = g.C.Codes.codes c.args.codes in
    let n = c.in_ok-letters.letters.len in
    let some = spaced-some (word_cuts AsciiSpace c.args.cuts) c.args.self.before n c.gap_len-spaces.result codes
    c.requires.some (c.in_ok-letters.ensures.len AsciiSpace)
    (c.gap_len-spaces.ensures.value ∙ ap gap_len c.from.ensures) in
    omega (arith, some)

pub at-before-requires : goal.at-before-requires
at-before-requires g c =
    let codes = g.C.Codes.codes c.args.codes in
    let n = c.in_ok-letters.letters.len in
    let some = spaced-some (word_cuts AsciiSpace c.args.cuts) c.args.self.before n c.gap_len-spaces.result codes
    c.requires.some (c.in_ok-letters.ensures.len AsciiSpace)
    (c.gap_len-spaces.ensures.value ∙ ap gap_len c.from.ensures) in
    omega (
      arith,
      some,
      c.in_ok-letters.ensures.within,
      c.gap_len-spaces.ensures.within,
      ap length c.from.ensures,
      length-drop n codes,
    )

pub returns-clause-is : goal.returns-clause-is
returns-clause-is g c =
    let cuts = word_cuts AsciiSpace c.args.cuts in
    let codes = g.C.Codes.codes c.args.codes in
    let n = c.in_ok-letters.letters.len in
    let m = c.gap_len-spaces.result in
    let before = c.args.self.before in
    let p = c.in_ok-letters.ensures.len AsciiSpace in
    let q : m ≡ gap_len (drop n codes) = c.gap_len-spaces.ensures.value ∙ ap gap_len c.from.ensures in
    let some = spaced-some cuts before n m codes c.requires.some p q in
    let inside : n + m ≤ length codes = omega (
      arith,
      c.in_ok-letters.ensures.within,
      c.gap_len-spaces.ensures.within,
      ap length c.from.ensures,
      length-drop n codes,
    ) in
    spaced-part cuts before n m c.at-before.result codes c.requires.some p q
    (c.at-before.ensures ∙ after-last before (n + m) 0 codes some inside)

pub returns-clause-gap : goal.returns-clause-gap
returns-clause-gap g c =
    let codes = g.C.Codes.codes c.args.codes in
    let n = c.in_ok-letters.letters.len in
    let q : c.gap_len-spaces.result ≡ gap_len (drop n codes) = c.gap_len-spaces.ensures.value
    ∙ ap gap_len c.from.ensures in
    ap (λ k. code_columns (take k (drop n codes))) q ∙ gap-columns (drop n codes) ∙ sym q

pub returns-clause-some : goal.returns-clause-some
returns-clause-some g c =
    let codes = g.C.Codes.codes c.args.codes in
    let n = c.in_ok-letters.letters.len in
    spaced-some (word_cuts AsciiSpace c.args.cuts) c.args.self.before n c.gap_len-spaces.result codes
    c.requires.some (c.in_ok-letters.ensures.len AsciiSpace)
    (c.gap_len-spaces.ensures.value ∙ ap gap_len c.from.ensures)

pub returns-clause-within : goal.returns-clause-within
returns-clause-within g c =
    let codes = g.C.Codes.codes c.args.codes in
    let n = c.in_ok-letters.letters.len in
    omega (
      arith,
      c.in_ok-letters.ensures.within,
      c.gap_len-spaces.ensures.within,
      ap length c.from.ensures,
      length-drop n codes,
    )
