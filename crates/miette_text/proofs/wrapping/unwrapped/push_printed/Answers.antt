use Rattle.std.proofs.Common.{◌∙◌, ap, chars}
use Rattle.miette_runs.specs.rules.Sequences.{spell}
use Rattle.miette_text.proofs.wrapping.unwrapped.push_printed.Goals as goal

pub push_further-requires-2 : goal.push_further-requires-2
push_further-requires-2 g c = (
  ap chars c.as_str.ensures.value ∙ c.in_ok-whole.ensures,
  ap chars c.as_str-2.ensures.value ∙ c.in_ok-bare.ensures ∙ ap spell c.trim_end.ensures,
)
