use Rattle.miette_text.proofs.Cuts.{leading-tame, leading-erase, trailing-tame, trailing-erase}
use Rattle.miette_text.proofs.wrap_laws.cutting_law.Goals as goal

pub returns : goal.returns
returns c = record {
  leading_tame = leading-tame;
  leading = leading-erase;
  trailing_tame = trailing-tame;
  trailing =
      trailing-erase;
}
