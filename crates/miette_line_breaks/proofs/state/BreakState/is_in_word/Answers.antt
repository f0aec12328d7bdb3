use Rattle.miette_line_breaks.proofs.Plain.{in-word}
use Rattle.miette_line_breaks.proofs.state.BreakState.is_in_word.Goals as goal

pub returns-then-not-self-clause-letters : goal.returns-then-not-self-clause-letters
returns-then-not-self-clause-letters c = in-word c.args.self.now
