use Rattle.std.proofs.Common.{Bool, true, false, inr, subst, rules}
use Rattle.miette_show_rows.specs.views.Reading.{IsTaken}
use Rattle.miette_show_rows.proofs.RowReading.{part_free, part_read, read_on, whole_read}
use Rattle.miette_show_rows.proofs.row_reader.RowReader.next.Goals as goal

pub returns-then-branch-clause-row : goal.returns-then-branch-clause-row
returns-then-branch-clause-row g c =
    let old = c.loop.self in
    let new = c.take.new.self in
    let before = c.loop.row.items in
    let after = c.take.new.row.items in
    let taken : IsTaken old.pending new.pending before after true =
    subst (λ (b : Bool). IsTaken old.pending new.pending before after b) c.if-branch.true c.in_ok-take.ensures.taken
    in
    whole_read g.R.Read.remaining c.args.self.now old new before after c.loop.invariant.left c.loop.invariant.none taken
    c.take.ensures.inner

pub returns-then-not-branch-clause-row : goal.returns-then-not-branch-clause-row
returns-then-not-branch-clause-row g c =
    let old = c.loop.self in
    let new = c.take.new.self in
    let before = c.loop.row.items in
    let after = c.take.new.row.items in
    let taken : IsTaken old.pending new.pending before after false =
    subst (λ (b : Bool). IsTaken old.pending new.pending before after b) c.if-branch.false c.in_ok-take.ensures.taken
    in
    let read = part_read g.R.Read.remaining c.args.self.now old new before after c.loop.invariant.left taken
    c.take.ensures.inner
    in (
      read_on g.R.Read.remaining c.args.self.now new c.refill.new.self after read c.in_ok-refill.ensures.left,
      inr (
        part_free g.R.Read.remaining old new before after c.loop.invariant.none taken,
        c.in_ok-refill.ensures.end (search rules),
      ),
    )
