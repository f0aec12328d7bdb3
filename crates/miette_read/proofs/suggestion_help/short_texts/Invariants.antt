use Rattle.std.proofs.Common.{◌≡◌, take}
use Rattle.std.specs.List.{filter_map}
use Rattle.miette_read.specs.rules.RustcReport.{short_text}
use Rattle.miette_read.specs.views.Values.{values_behind, texts}
use Rattle.miette_read.proofs.suggestion_help.short_texts.Given as goal

abbrev pub invariant-loop-span : goal.invariant-loop-span
invariant-loop-span l = texts l.list.items ≡ filter_map short_text (values_behind (take l.span-index l.span-items))
