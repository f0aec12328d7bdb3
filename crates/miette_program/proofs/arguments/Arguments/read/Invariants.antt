use Rattle.std.proofs.Common.{◌≡◌, length, map, string_bytes}
use Rattle.miette_program.specs.rules.OptionWords.{parsed_arguments, with_words}
use Rattle.miette_program.specs.steps.ParsedArguments.{parsed_of}
use Rattle.miette_program.proofs.arguments.Arguments.read.Given as goal

-- the words that are left ask for more than those before asked for
abbrev pub invariant-loop-rest : goal.invariant-loop-rest
invariant-loop-rest l =
    parsed_arguments (map string_bytes l.words) ≡ with_words (map string_bytes l.rest) (parsed_of l.settings)

abbrev pub decreases-loop-rest : goal.decreases-loop-rest
decreases-loop-rest l = length l.rest
