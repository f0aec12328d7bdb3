use Rattle.miette_snippet_folds.proofs.left_out.leaves_out.Goals as goal

pub is_left_out-requires : goal.is_left_out-requires
is_left_out-requires c = record {
  small = c.requires.small;
  next = c.requires.place;
  low = c.requires.low;
  there = c.requires.there;
}
