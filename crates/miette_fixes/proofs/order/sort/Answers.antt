use Rattle.std.proofs.Common.{◌≡◌, ◌∙◌, ap, rules, sym, true}
use Rattle.std.proofs.lemmas.List.Sorted.{answers_always}
use Rattle.std.proofs.lemmas.Result.{on_ok_weaker}
use Rattle.miette_protocol.specs.rules.Reading.{Span}
use Rattle.miette_fixes.specs.steps.Sweeping.{ascends}
use Rattle.miette_fixes.specs.views.Ordered.{edits_of}
use Rattle.miette_fixes.proofs.Sorting.{in_order_stays, sort_by_offset}
use Rattle.miette_fixes.proofs.order.sort.Goals as goal
use denote.Ref.{Bor}
use Rattle.miette_fixes.specs.rules.Edits.{Replacement}

pub returns-then-ascend : goal.returns-then-ascend
returns-then-ascend c =
    let up : ascends (edits_of c.args.edits.now.items) ≡ true =
    ap (λ es. ascends (edits_of es)) (sym c.deref.ensures.value) ∙ sym c.ascend.ensures ∙ c.if-ascend.true in
    sym (in_order_stays (edits_of c.args.edits.now.items) up)

pub returns : goal.returns
returns c =
    let key : Bor Replacement → Span = λ edit. edit.now.span in
    on_ok_weaker c.sort_by_key.result (λ h. sort_by_offset c.args.edits.now.items c.sort_by_key.new.self.items
    (h key (answers_always _ _ _ (λ f a r f' k. search rules)))
    (c.sort_by_key.ensures.stable key (answers_always _ _ _ (λ f a r f' k. search rules))))
    c.sort_by_key.ensures.sorted
