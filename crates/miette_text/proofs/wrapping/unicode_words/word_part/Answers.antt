use Rattle.std.proofs.Common.{◌∙◌, ◌≤◌, arith, length}
use Rattle.miette_text.specs.declared.options.WordSeparator.TheVariants.{UnicodeBreakProperties}
use Rattle.miette_text.specs.views.Cutting.{word_cuts}
use Rattle.miette_text.proofs.BreakParts.{last-part, more-part, more-some}
use Rattle.miette_text.proofs.FirstRow.{after-last}
use Rattle.miette_text.proofs.wrapping.unicode_words.word_part.Goals as goal

pub returns-then-letters-word-clause-is : goal.returns-then-letters-word-clause-is
returns-then-letters-word-clause-is g c =
    last-part (word_cuts UnicodeBreakProperties c.args.cuts) c.args.word c.in_ok-letters.letters.len
    (g.C.Codes.codes c.args.codes) c.requires.some c.requires.fits.0 c.in_ok-letters.ensures.len
    c.if-letters-word.true

pub overflow_sub-after : goal.overflow_sub-after
overflow_sub-after g c =
    let some = more-some (word_cuts UnicodeBreakProperties c.args.cuts) c.args.word c.in_ok-letters.letters.len
    (g.C.Codes.codes c.args.codes) c.requires.fits.0 c.in_ok-letters.ensures.len
    c.in_ok-letters.ensures.within c.if-letters-word.false in
    omega (arith, some.0)

pub overflow_sub-letters : goal.overflow_sub-letters
overflow_sub-letters g c =
    let some = more-some (word_cuts UnicodeBreakProperties c.args.cuts) c.args.word c.in_ok-letters.letters.len
    (g.C.Codes.codes c.args.codes) c.requires.fits.0 c.in_ok-letters.ensures.len
    c.in_ok-letters.ensures.within c.if-letters-word.false in
    omega (arith, some.0)

pub returns-clause-is : goal.returns-clause-is
returns-clause-is g c =
    let cuts = word_cuts UnicodeBreakProperties c.args.cuts in
    let word = c.args.word in
    let codes = g.C.Codes.codes c.args.codes in
    let n = c.in_ok-letters.letters.len in
    let some = more-some cuts word n codes c.requires.fits.0 c.in_ok-letters.ensures.len
    c.in_ok-letters.ensures.within c.if-letters-word.false in
    let inside : n ≤ length codes = omega (arith, some.1, c.requires.fits.0) in
    more-part cuts word n c.at.result codes c.requires.some c.requires.fits.0
    c.in_ok-letters.ensures.len some.1
    (c.at.ensures ∙ after-last word.before n 0 codes some.0 inside)

pub returns-clause-some : goal.returns-clause-some
returns-clause-some g c =
    let some = more-some (word_cuts UnicodeBreakProperties c.args.cuts) c.args.word c.in_ok-letters.letters.len
    (g.C.Codes.codes c.args.codes) c.requires.fits.0 c.in_ok-letters.ensures.len
    c.in_ok-letters.ensures.within c.if-letters-word.false in
    omega (arith, some.0)
