use Rattle.miette_lines.proofs.Firsts.{first_is}
use Rattle.miette_lines.proofs.lines.first_line.Goals as goal

pub returns : goal.returns
returns c =
    first_is c.args.start c.args.bytes.now c.first_size-size.result.text c.first_size-size.result.whole
    c.first_size-size.ensures.inside c.first_size-size.ensures.some c.first_size-size.ensures.fits
    c.first_size-size.ensures.parted
