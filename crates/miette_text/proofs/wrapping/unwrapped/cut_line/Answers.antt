use Rattle.std.proofs.Common.{◌≡◌, ◌+◌, arith, rules, take}
use Rattle.std.proofs.lemmas.Str.{IsCharBoundary-after_ascii}
use Rattle.miette_text.proofs.WholeLines.{at-feed, first-feed}
use Rattle.miette_text.proofs.wrapping.unwrapped.cut_line.Goals as goal

pub range-requires-clause-end_boundary : goal.range-requires-clause-end_boundary
range-requires-clause-end_boundary c =
    IsCharBoundary-after_ascii c.args.text.now c.args.len c.utf8.text c.requires.more
    (omega (arith, at-feed c.args.text.now c.args.len c.requires.len c.requires.more))

pub range_from-requires : goal.range_from-requires
range_from-requires c = λ _. IsCharBoundary-after_ascii c.args.text.now c.args.len c.utf8.text c.requires.more
    (omega (arith, at-feed c.args.text.now c.args.len c.requires.len c.requires.more))

pub returns-clause-fed : goal.returns-clause-fed
returns-clause-fed c =
    let front : c.range.result.now ≡ take (c.args.len + 1) c.args.text.now = search rules in
    (first-feed c.args.text.now c.range.result.now c.range_from.result.now c.args.len c.utf8.text c.requires.len
    c.requires.more front c.range_from.ensures.value).ending

pub returns-clause-line : goal.returns-clause-line
returns-clause-line c =
    let front : c.range.result.now ≡ take (c.args.len + 1) c.args.text.now = search rules in
    (first-feed c.args.text.now c.range.result.now c.range_from.result.now c.args.len c.utf8.text c.requires.len
    c.requires.more front c.range_from.ensures.value).is_first
