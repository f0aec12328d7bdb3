-- How the code's cuts split the words of a separator.
use Rattle.miette_text.specs.rules.Wrapping as rules
use Rattle.miette_text.specs.declared.options.WordSeparator.{WordSeparator}
use Rattle.miette_text.specs.declared.wrapping.word_parts.Cuts.{Cuts}

abbrev pub word_cuts : WordSeparator → Cuts → rules.Cuts
word_cuts separator cuts = record {
  separator = separator;
  split_hyphens = cuts.split_hyphens;
  break_words = cuts.break_words;
  narrow = cuts.narrow;
}
