use Rattle.std.proofs.Common.{◌≡◌, ℕ, List, [], Bor, true, false, slice_index_or, sym, rules}
use Rattle.miette_read_sarif.specs.rules.Newlines.{stands_in}
use Rattle.miette_read_sarif.proofs.Finding.{found_here, item_is, not_yet}
use Rattle.miette_read_sarif.proofs.newlines.end_here.Goals as goal

abbrev none : Bor (List ℕ)
none = record { ref_ptr = (0, 0); now = [] }

pub returns-then-stands_in-clause-value : goal.returns-then-stands_in-clause-value
returns-then-stands_in-clause-value c =
    let l = c.loop-sequence in
    let newlines = c.args.newlines.now in
    let hit : stands_in c.args.bytes.now (slice_index_or newlines l.sequence-index none).now ≡ true = search rules in
    sym (found_here (λ (v : Bor (List ℕ)). v.now) (stands_in c.args.bytes.now) newlines l.sequence-index
    (slice_index_or newlines l.sequence-index none) c.loop-sequence-test.true
    (item_is newlines l.sequence-index none c.loop-sequence-test.true) hit l.invariant)

pub loop-sequence-preserved : goal.loop-sequence-preserved
loop-sequence-preserved c =
    let l = c.loop-sequence in
    let newlines = c.args.newlines.now in
    let miss : stands_in c.args.bytes.now (slice_index_or newlines l.sequence-index none).now ≡ false = search rules in
    not_yet (λ (v : Bor (List ℕ)). v.now) newlines l.sequence-index (slice_index_or newlines l.sequence-index none)
    c.loop-sequence-test.true (item_is newlines l.sequence-index none c.loop-sequence-test.true)
    (stands_in c.args.bytes.now) miss l.invariant
