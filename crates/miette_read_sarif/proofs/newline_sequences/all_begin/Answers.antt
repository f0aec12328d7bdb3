use Rattle.std.proofs.Common.{◌≡◌, ℕ, List, [], Bor, ap, false, slice_index_or, sym, true, ◌∙◌, rules}
use Rattle.std.proofs.lemmas.List.{take_all}
use Rattle.std.specs.List.{list_all}
use Rattle.memchr.specs.Find.{is_byte3}
use Rattle.miette_read.specs.views.Values.{texts}
use Rattle.miette_read_sarif.specs.views.Begins.{begins_by}
use Rattle.miette_read.proofs.Steps.{all_more, not_all}
use Rattle.miette_read_sarif.proofs.Finding.{item_is}
use Rattle.miette_read_sarif.proofs.newline_sequences.all_begin.Goals as goal

abbrev none : Bor (List ℕ)
none = record { ref_ptr = (0, 0); now = [] }

pub returns-then-not-begins_by : goal.returns-then-not-begins_by
returns-then-not-begins_by c =
    let l = c.loop-sequence in
    let newlines = c.args.newlines.now in
    let test = begins_by (is_byte3 c.args.one c.args.two c.args.three) in
    let miss : test (slice_index_or newlines l.sequence-index none).now ≡ false = search rules in
    sym (not_all (λ (v : Bor (List ℕ)). v.now) test newlines l.sequence-index
    (slice_index_or newlines l.sequence-index none) c.loop-sequence-test.true
    (item_is newlines l.sequence-index none c.loop-sequence-test.true) miss)

pub loop-sequence-preserved : goal.loop-sequence-preserved
loop-sequence-preserved c =
    let l = c.loop-sequence in
    let newlines = c.args.newlines.now in
    let test = begins_by (is_byte3 c.args.one c.args.two c.args.three) in
    let hit : test (slice_index_or newlines l.sequence-index none).now ≡ true = search rules in
    all_more (λ (v : Bor (List ℕ)). v.now) newlines l.sequence-index (slice_index_or newlines l.sequence-index none)
    c.loop-sequence-test.true (item_is newlines l.sequence-index none c.loop-sequence-test.true) test l.invariant hit

pub returns : goal.returns
returns c =
    let l = c.loop-sequence in
    let test = begins_by (is_byte3 c.args.one c.args.two c.args.three) in
    sym (ap (λ (ns : List (Bor (List ℕ))). list_all test (texts ns))
    (sym (take_all l.sequence-index c.args.newlines.now c.loop-sequence-test.false)) ∙ l.invariant)
