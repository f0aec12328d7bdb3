use Rattle.miette_text.proofs.FeedBlocks.{feeds_mask}
use Rattle.miette_text.proofs.wrapping.line_feeds.feeds_in.Goals as goal

pub returns : goal.returns
returns c = feeds_mask c.args.block c.fits-block.0
