use Rattle.miette_text.proofs.PrintableBlocks.{others_mask}
use Rattle.miette_text.proofs.wrapping.printable.others_in.Goals as goal

pub returns : goal.returns
returns c = others_mask c.args.block c.fits-block.0
