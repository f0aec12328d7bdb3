-- How the options and plans of the code wrap.
use Rattle.std.specs.Prelude.{ℕ, Bool, true, false, List, chars}
use Rattle.miette_runs.specs.rules.Sequences.{Token, spell}
use Rattle.miette_text.specs.rules.Wrapping as rules
use Rattle.miette_text.specs.declared.options.WrapPlan.{WrapPlan}
use Rattle.miette_text.specs.declared.options.WrapOptions.{WrapOptions}
use Rattle.miette_text.specs.declared.options.WordSplitter.{WordSplitter}
use Rattle.miette_text.specs.declared.options.WordSplitter.TheVariants.{NoHyphenation, HyphenSplitter}

abbrev pub cuts_hyphens : WordSplitter → Bool
cuts_hyphens NoHyphenation = false
cuts_hyphens HyphenSplitter = true

abbrev pub options_plan : WrapOptions → rules.WrapPlan (List ℕ)
options_plan o = record {
  room = o.width;
  first = chars o.initial_indent.now;
  further = chars o.subsequent_indent.now;
  break_words = o.break_words;
  wrap_lines = o.wrap_lines;
  separator = o.separator;
  split_hyphens = cuts_hyphens o.splitter;
}

-- under runs, unchanged
abbrev pub runs_plan : WrapPlan → rules.WrapPlan (List Token)
runs_plan p = record {
  room = p.width;
  first = p.first.now;
  further = p.further.now;
  break_words = p.break_words;
  wrap_lines = p.wrap_lines;
  separator = p.separator;
  split_hyphens = p.split_hyphens;
}

-- under the text that the runs print
abbrev pub printed_plan : WrapPlan → rules.WrapPlan (List ℕ)
printed_plan p = rules.map_indents spell (runs_plan p)
