use Rattle.std.proofs.Common.{◌∷◌, length, length-append, lit<, ap, arith}
use Rattle.std.proofs.lemmas.Str.Pattern.{split_parts}
use Rattle.miette_snippet_frames.proofs.TextLines.{cut_whole, cut_parted}
use Rattle.miette_snippet_frames.proofs.label_text.first_part.Goals as goal

pub returns-in-Some : goal.returns-in-Some
returns-in-Some c =
    let parts = rw c.in-Some.is at (split_parts 10 c.args.text.now c.split_once.result c.split_once.ensures.cases
    (lit< tt)) in
    record {
      cut = cut_parted c.args.text.now c.in-Some.first.now c.in-Some.rest.now c.utf8.text parts.0 parts.1;
      shorter = omega (arith, length-append c.in-Some.first.now (10 ∷ c.in-Some.rest.now), ap length parts.0);
    }

pub returns-in-None : goal.returns-in-None
returns-in-None c =
    let none = rw c.in-None.is at (split_parts 10 c.args.text.now c.split_once.result c.split_once.ensures.cases
    (lit< tt)) in
    record { cut = cut_whole c.args.text.now c.utf8.text none; shorter = tt }
