use Rattle.std.proofs.Common.{◌≡◌, ◌<◌, ◌++◌, ℕ, List, [], Bool, true, false, length, ap, subst, sym, ◌∙◌, rules, arith}
use Rattle.std.proofs.lemmas.Bool.Decides.{nat_tests}
use Rattle.std.proofs.KnownBytes.{Consumes-nil}
use Rattle.std.proofs.lemmas.List.{nil_from_length}
use Rattle.miette_show_rows.specs.declared.parts.JsonState.{JsonState}
use Rattle.miette_show_rows.specs.rules.Parts.{after_bytes, begins_value, closed, is_unclosed}
use Rattle.miette_show_rows.specs.views.Reading.{left_of}
use Rattle.miette_show_rows.proofs.PartSteps.{PartHeld, after_more, closed_ends, held_begin, held_end, held_more}
use Rattle.miette_show_rows.proofs.PartSteps.{held_whole, is_as, never_on, on_as, open_ends, row_more}
use Rattle.miette_show_rows.proofs.row_reader.RowReader.gather.Goals as goal

pub loop-init : goal.loop-init
loop-init g c =
    let left = left_of g.R.Read.remaining c.args.self.now in
    let none : c.clear.new.self.items ≡ [] = search rules in
    record {
      sound = c.requires.sound;
      held = subst (PartHeld left left) (sym none) (held_begin left);
      reached = c.nothing-state.ensures ∙ ap (λ l. after_bytes closed l) (sym none);
    }

pub returns-then-is_empty-clause-part : goal.returns-then-is_empty-clause-part
returns-then-is_empty-clause-part g c =
    let none : length c.next.new.row.items ≡ 0 = search rules in
    held_end _ _ _ c.loop.part.items c.next.new.row.items (nil_from_length c.next.new.row.items none)
    c.loop.invariant.held c.in_ok-next.ensures.row

pub returns-then-not-begins_value-clause-part : goal.returns-then-not-begins_value-clause-part
returns-then-not-begins_value-clause-part g c =
    let held = c.loop.part.items in
    let row = c.next.new.row.items in
    let part = c.extend_from_slice.new.self.items in
    let some : 0 < length row =
    (let a = c.is_empty.ensures in let b = c.if-is_empty.false in grind (arith, nat_tests))
    in
    let one : part ≡ held ++ row =
    c.in_ok-extend_from_slice.ensures.items ∙ ap (λ l. held ++ l) c.as_slice.ensures.value
    in
    let begins : begins_value part ≡ false =
    ap begins_value (sym c.as_slice-in-loop.ensures.value) ∙ sym c.begins_value.ensures ∙ c.if-not-begins_value.true
    in
    held_whole _ _ _ held row part one some
    (row_more _ _ _ held row part one some c.loop.invariant.held c.in_ok-next.ensures.row) (Consumes-nil _)
    (closed_ends _ part (never_on part begins))

-- a row more, after rows that begin a value
grown : (held row part a b d : List ℕ) (old state : JsonState) (begun : Bool) → part ≡ held ++ a → a ≡ row → b ≡ part
    → begun ≡ begins_value b → begun ≡ true → old ≡ after_bytes closed held → state ≡ after_bytes old d → d ≡ row
    → (part ≡ held ++ row) × (begins_value part ≡ true) × (state ≡ after_bytes closed part)
grown held row part a b d old state begun more more_is part_is begins begun_is reached after row_is =
    let one : part ≡ held ++ row = more ∙ ap (λ l. held ++ l) more_is in (
      one,
      ap begins_value (sym part_is) ∙ sym begins ∙ begun_is,
      after_more held row part old state one reached (after ∙ ap (λ l. after_bytes old l) row_is),
    )

pub returns-then-not-is_unclosed-clause-part : goal.returns-then-not-is_unclosed-clause-part
returns-then-not-is_unclosed-clause-part g c =
    let held = c.loop.part.items in
    let row = c.next.new.row.items in
    let part = c.extend_from_slice.new.self.items in
    let state = c.after_bytes-state.result in
    let its = grown held row part _ _ _ c.loop.state state _ c.in_ok-extend_from_slice.ensures.items
    c.as_slice.ensures.value c.as_slice-in-loop.ensures.value c.begins_value.ensures c.if-not-begins_value.false
    c.loop.invariant.reached c.after_bytes-state.ensures c.as_slice-in-loop-2.ensures.value in
    let none : is_unclosed state ≡ false = sym c.is_unclosed.ensures ∙ c.if-not-is_unclosed.true in
    let some : 0 < length row =
    (let a = c.is_empty.ensures in let b = c.if-is_empty.false in grind (arith, nat_tests))
    in
    held_whole _ _ _ held row part its.0 some
    (row_more _ _ _ held row part its.0 some c.loop.invariant.held c.in_ok-next.ensures.row) (Consumes-nil _)
    (closed_ends _ part (is_as part state false its.2 its.1 none))

pub returns-then-not-branch-clause-part : goal.returns-then-not-branch-clause-part
returns-then-not-branch-clause-part g c =
    let held = c.loop.part.items in
    let row = c.next.new.row.items in
    let part = c.extend_from_slice.new.self.items in
    let state = c.after_bytes-state.result in
    let its = grown held row part _ _ _ c.loop.state state _ c.in_ok-extend_from_slice.ensures.items
    c.as_slice.ensures.value c.as_slice-in-loop.ensures.value c.begins_value.ensures c.if-not-begins_value.false
    c.loop.invariant.reached c.after_bytes-state.ensures c.as_slice-in-loop-2.ensures.value in
    let more : is_unclosed state ≡ true = sym c.is_unclosed.ensures ∙ c.if-not-is_unclosed.false in
    let some : 0 < length row =
    (let a = c.is_empty.ensures in let b = c.if-is_empty.false in grind (arith, nat_tests))
    in
    held_whole _ _ _ held row part its.0 some
    (row_more _ _ _ held row part its.0 some c.loop.invariant.held c.in_ok-next.ensures.row)
    c.in_ok-continues_value.ensures.left
    (open_ends _ part (is_as part state true its.2 its.1 more)
    (on_as _ part _ _ false c.as_slice-in-loop-3.ensures.value (search rules) c.in_ok-continues_value.ensures.on))

pub loop-preserved : goal.loop-preserved
loop-preserved g c =
    let held = c.loop.part.items in
    let row = c.next.new.row.items in
    let part = c.extend_from_slice.new.self.items in
    let state = c.after_bytes-state.result in
    let its = grown held row part _ _ _ c.loop.state state _ c.in_ok-extend_from_slice.ensures.items
    c.as_slice.ensures.value c.as_slice-in-loop.ensures.value c.begins_value.ensures c.if-not-begins_value.false
    c.loop.invariant.reached c.after_bytes-state.ensures c.as_slice-in-loop-2.ensures.value in
    let more : is_unclosed state ≡ true = sym c.is_unclosed.ensures ∙ c.if-not-is_unclosed.false in
    let some : 0 < length row =
    (let a = c.is_empty.ensures in let b = c.if-is_empty.false in grind (arith, nat_tests))
    in
    record {
      sound = search rules;
      held = held_more _ _ _ part
          (row_more _ _ _ held row part its.0 some c.loop.invariant.held c.in_ok-next.ensures.row)
          c.in_ok-continues_value.ensures.left (is_as part state true its.2 its.1 more)
          (on_as _ part _ _ true c.as_slice-in-loop-3.ensures.value (search rules) c.in_ok-continues_value.ensures.on);
      reached = its.2;
    }
