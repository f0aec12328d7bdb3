use Rattle.std.proofs.Common.{◌+◌, ◌∙◌, ap, length, length-drop, lit<, sym, take, arith}
use Rattle.std.specs.List.{position_or_len}
use Rattle.std.proofs.lemmas.List.{drop_all, take_all}
use Rattle.std.proofs.lemmas.Str.Pattern.{split_once_first}
use Rattle.miette.specs.rules.Pieces.{is_lf}
use Rattle.miette.proofs.pieces.parted.Goals as goal

pub returns-in-Some : goal.returns-in-Some
returns-in-Some c =
    let cut = rw c.in-Some.is at (split_once_first 10 c.args.text.now c.split_once.result c.split_once.ensures.cases
    (lit< tt)) in
    let size = ap length cut.2 ∙ length-drop (position_or_len is_lf c.args.text.now + 1) c.args.text.now in
    record {
      line = cut.1;
      rest = cut.2;
      fits = omega (arith, size);
      shorter = λ some. omega (arith, size, some);
    }

pub returns-in-None : goal.returns-in-None
returns-in-None c =
    let whole = rw c.in-None.is at (split_once_first 10 c.args.text.now c.split_once.result c.split_once.ensures.cases
    (lit< tt)) in
    let text = c.args.text.now in
    record {
      line = sym (ap (λ n. take n text) whole ∙ take_all (length text) text (omega arith));
      rest = sym (drop_all (position_or_len is_lf c.args.text.now + 1) c.args.text.now (omega (arith, whole)));
      fits = omega arith;
      shorter = λ some. some;
    }
