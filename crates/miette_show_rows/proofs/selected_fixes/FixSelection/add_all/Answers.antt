use Rattle.std.proofs.Common.{◌∷◌, []}
use Rattle.miette_show_rows.proofs.Rows.{counts_none, counts_then}
use Rattle.miette_show_rows.proofs.selected_fixes.FixSelection.add_all.Goals as goal

pub loop-row-init : goal.loop-row-init
loop-row-init c = λ names held. counts_none c.args.broken names c.args.self.now

pub loop-row-preserved : goal.loop-row-preserved
loop-row-preserved c = λ names held.
    let l = c.loop-row in
    counts_then c.args.broken names c.args.self.now l.self c.add.new.self l.yielded (c.in-Some.row ∷ [])
    (l.invariant names held) (c.in_ok-add.ensures names held)
