use Rattle.std.proofs.Common.{◌+◌}
use Rattle.miette_lines.proofs.Feeds.{HasFeeds}
use Rattle.miette_lines.proofs.scan.feeds_between.Given as goal

abbrev pub invariant-loop-i : goal.invariant-loop-i
invariant-loop-i l = HasFeeds l.bytes l.from (l.from + l.i) l.feeds l.returns
