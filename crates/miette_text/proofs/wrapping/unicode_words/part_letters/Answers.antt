use Rattle.std.proofs.Common.{◌≡◌, ◌∙◌, ◌≤◌, ap, arith, length, subst, sym, take}
use Rattle.std.proofs.lemmas.List.{length-take-le, take-take}
use Rattle.std.proofs.lemmas.Result.{IfOk-weaker}
use Rattle.miette_runs.specs.steps.Cells.{code_columns}
use Rattle.miette_text.specs.declared.options.WordSeparator.TheVariants.{UnicodeBreakProperties}
use Rattle.miette_text.specs.steps.Ends.{part_len}
use Rattle.miette_text.specs.views.Breaks.{never}
use Rattle.miette_text.specs.views.Cutting.{word_cuts}
use Rattle.miette_text.proofs.PrintedRuns.{printed-columns, printed-part}
use Rattle.miette_text.proofs.wrapping.unicode_words.part_letters.Goals as goal

pub returns-then-word-cuts-clause-len : goal.returns-then-word-cuts-clause-len
returns-then-word-cuts-clause-len g c =
    let n = c.args.word.letters in
    let cs = take n (g.C.Codes.codes c.args.codes) in
    let all : length cs ≡ n = length-take-le n (g.C.Codes.codes c.args.codes) c.requires.fits in
    sym (printed-part (word_cuts UnicodeBreakProperties c.args.cuts) c.args.word.before 0 n cs
    (c.requires.printed c.if-is_printed.true) (omega (arith, all)) c.if-word-cuts.true ∙ all)

pub returns-then-word-cuts-clause-columns : goal.returns-then-word-cuts-clause-columns
returns-then-word-cuts-clause-columns g c =
    let n = c.args.word.letters in
    let cs = take n (g.C.Codes.codes c.args.codes) in
    let same : take n cs ≡ cs = take-take n n (g.C.Codes.codes c.args.codes) (omega arith) in
    sym (ap code_columns same ∙ printed-columns cs (c.requires.printed c.if-is_printed.true)
    ∙ length-take-le n (g.C.Codes.codes c.args.codes) c.requires.fits)

pub returns-clause-len : goal.returns-clause-len
returns-clause-len g c =
    IfOk-weaker c.first_part.result _ _ (λ p h. h UnicodeBreakProperties
    ∙ ap (part_len never (word_cuts UnicodeBreakProperties c.args.cuts) c.args.word.before 0) c.front.ensures)
    c.first_part.ensures.len

pub returns-clause-columns : goal.returns-clause-columns
returns-clause-columns g c =
    IfOk-weaker c.first_part.result _ _ (λ p h. h ∙ ap (λ xs. code_columns (take p.len xs)) c.front.ensures)
    c.first_part.ensures.columns

pub returns-clause-within : goal.returns-clause-within
returns-clause-within g c =
    IfOk-weaker c.first_part.result _ _ (λ p h. subst (λ xs. p.len ≤ length xs) c.front.ensures h)
    c.first_part.ensures.within
