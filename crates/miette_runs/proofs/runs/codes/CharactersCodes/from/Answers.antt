use Rattle.std.proofs.lemmas.List.{take_rest}
use Rattle.miette_runs.proofs.runs.codes.CharactersCodes.from.Goals as goal

pub returns : goal.returns
returns c = take_rest c.args.self.list.now c.args.n
