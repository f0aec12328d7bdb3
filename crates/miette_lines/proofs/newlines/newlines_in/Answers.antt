use Rattle.miette_lines.proofs.Blocks.{breaks_mask}
use Rattle.miette_lines.proofs.newlines.newlines_in.Goals as goal

pub returns : goal.returns
returns c = breaks_mask c.args.block c.fits-block.0
