use Rattle.std.proofs.Common.{[]}
use Rattle.miette_show_rows.proofs.VisibleSteps.{none_left, same_bytes, same_length}
use Rattle.miette_show_rows.proofs.mask_controls.visible_laws.Goals as goal

pub returns : goal.returns
returns c = record {
  length = λ bytes. same_length [] bytes;
  none = λ bytes. (none_left bytes).whole;
  same = same_bytes;
}
