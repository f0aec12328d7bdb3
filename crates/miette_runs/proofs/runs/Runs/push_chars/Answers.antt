use Rattle.std.proofs.Common.{◌≡◌, ◌∙◌, ◌+◌, ◌++◌, ap, arith, length, map, rules}
use Rattle.std.specs.Result.{OnOk}
use Rattle.std.proofs.lemmas.Result.{on_ok_weaker}
use Rattle.miette_runs.specs.rules.Sequences.{Character}
use Rattle.miette_runs.specs.views.Interleaving.{interleaving}
use Rattle.miette_runs.proofs.Growing.{spell-more, within-more, woven-more}
use Rattle.miette_runs.proofs.runs.Runs.push_chars.Goals as goal

pub returns-clause-tokens : goal.returns-clause-tokens
returns-clause-tokens c =
    let cs = c.self.inside.codes.items in
    let ms = c.self.inside.tags.items in
    let more : OnOk c.extend_from_slice.result (c.extend_from_slice.new.self.items ≡ cs ++ c.args.codes.now) =
    search rules in
    on_ok_weaker c.extend_from_slice.result (λ h. ap (λ xs. interleaving 0 xs ms) h
    ∙ woven-more 0 cs c.args.codes.now ms (within-more (length cs) (0 + length cs) ms (omega arith) c.self.invariant)
    ∙ ap (λ ts. ts ++ map Character c.args.codes.now) c.self.view_is) more

pub returns-clause-text : goal.returns-clause-text
returns-clause-text c =
    on_ok_weaker c.extend_from_slice.result (spell-more c.args.self.now _ c.args.codes.now) (returns-clause-tokens c)
