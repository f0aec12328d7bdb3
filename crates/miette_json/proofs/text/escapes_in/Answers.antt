use Rattle.miette_json.proofs.Blocks.{escapes_mask}
use Rattle.miette_json.proofs.text.escapes_in.Goals as goal

pub returns : goal.returns
returns c = escapes_mask c.args.block c.fits-block.0
