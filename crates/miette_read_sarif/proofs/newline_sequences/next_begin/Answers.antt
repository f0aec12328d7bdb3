use Rattle.std.proofs.Common.{◌≡◌, ◌≤◌, ◌+◌, ℕ, List, ap, arith, drop, length, subst, true, rules}
use Rattle.std.specs.List.{list_all}
use Rattle.std.proofs.lemmas.List.{drop-drop}
use Rattle.memchr.specs.Find.{is_byte3}
use Rattle.miette_read.specs.views.Values.{texts}
use Rattle.miette_read_sarif.specs.rules.Newlines.{text_size}
use Rattle.miette_read_sarif.specs.views.Begins.{IsNoneBefore, begins_by}
use Rattle.miette_read_sarif.proofs.BeginSteps.{text_skips}
use Rattle.miette_read_sarif.proofs.NewlineSteps.{rest_within}
use Rattle.miette_read_sarif.proofs.newline_sequences.next_begin.Goals as goal

pub returns-clause-value : goal.returns-clause-value
returns-clause-value c =
    let newlines = texts c.args.ends.now.newlines.items in
    let bytes = c.args.bytes.now in
    let at = c.args.at in
    let test = is_byte3 c.args.ends.now.one c.args.ends.now.two c.args.ends.now.three in
    let skipped = c.bytes_before.result in
    let rest : c.rest_from.result.now ≡ drop at bytes = c.rest_from.ensures in
    let all : list_all (begins_by test) newlines ≡ true = search rules in
    let none : IsNoneBefore test (drop at bytes) skipped =
    subst (λ (bs : List ℕ). IsNoneBefore test bs skipped) rest c.bytes_before.ensures.none
    in
    let within : skipped ≤ length (drop at bytes) =
    subst (λ (bs : List ℕ). skipped ≤ length bs) rest c.bytes_before.ensures.within
    in
    let on = text_skips test newlines all skipped (drop at bytes) within none in
    let after : text_size newlines (drop skipped (drop at bytes)) ≡ text_size newlines (drop (at + skipped) bytes) =
    ap (text_size newlines) (drop-drop skipped at bytes)
    in
    omega (arith, on, after)

pub returns-clause-within : goal.returns-clause-within
returns-clause-within c =
    rest_within c.args.bytes.now c.rest_from.result.now c.args.at c.bytes_before.result c.requires c.rest_from.ensures
    c.bytes_before.ensures.within
