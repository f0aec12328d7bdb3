use Rattle.std.proofs.Common.{◌≡◌, chars, drop, length}
use Rattle.miette_text.specs.steps.Fitting.{fits_row}
use Rattle.miette_text.proofs.Fitting.{left_fits}
use Rattle.miette_text.proofs.wrapping.fitting.walk_fits.Given as goal

abbrev pub invariant-loop-c : goal.invariant-loop-c
invariant-loop-c l = fits_row l.room (chars l.text) ≡ left_fits l.left l.bare (drop (length l.yielded) (chars l.text))
