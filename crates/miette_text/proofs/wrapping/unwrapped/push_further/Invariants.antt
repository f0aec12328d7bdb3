use Rattle.std.proofs.Common.{◌≡◌, ◌++◌, chars, length}
use denote.Shadow.{shadow}
use denote.Text.{Utf8}
use Rattle.miette_runs.specs.views.Interleaving.{interleaving}
use Rattle.miette_text.proofs.WholeLines.{whole_text}
use Rattle.miette_text.proofs.wrapping.unwrapped.push_further.Given as goal

abbrev pub invariant-lines : goal.invariant-lines
invariant-lines g l = record {
  printed : g.S.Canvas.written l.out ++ whole_text (interleaving 0 l.indent.codes.now l.indent.tags.now)
      (interleaving 0 l.indent.codes.now l.indent.tags.now) (chars l.rest)
      ≡ g.S.Canvas.written l.fn.out ++ whole_text (interleaving 0 l.indent.codes.now l.indent.tags.now)
      (interleaving 0 l.indent.codes.now l.indent.tags.now) (chars l.text);
  text : shadow (Utf8 l.rest);
}

abbrev pub decreases-lines : goal.decreases-lines
decreases-lines g l = length l.rest
