use Rattle.std.proofs.Common.{◌≡◌, ◌≤◌, ◌<◌, List, true, false, OnOk, length, get_or, ap, ap₂, subst, sym, rules, ◌∙◌}
use Rattle.std.specs.Prelude.{if◌then◌else◌}
use Rattle.miette_fixes.specs.rules.Edits.{FixModel}
use Rattle.miette_read.specs.rules.SuggestedFixes.{FileEdit, Suggestion, SplitFixes, is_in, with_edit, with_item}
use Rattle.miette_read.specs.rules.SuggestedFixes.{without_edits}
use Rattle.miette_read.proofs.Parts.{all_parted}
use Rattle.miette_read.proofs.Steps.{fold_next}
use Rattle.miette_read.proofs.suggestions.Suggestion.push_fixes.Goals.{then-eq+in_ok-edit+in_ok-fix, else-eq}
use Rattle.miette_read.proofs.suggestions.Suggestion.push_fixes.Goals as goal

pub loop-item-preserved : goal.loop-item-preserved
loop-item-preserved c =
    let l = c.loop-item in
    let self = c.args.self.now in
    let name = c.args.name.now in
    let x = c.item-item.result in
    let same = c.as_slice-item-items.ensures.value ∙ ap (λ (o : Suggestion). o.edits) c.self.view_is in
    let within = subst (λ (es : List FileEdit). l.item-index < length es) same c.loop-item-test.true in
    let is = subst (λ (es : List FileEdit). x ≡ get_or es l.item-index x) same c.item-item.is in
    let parting : List FixModel → FixModel → SplitFixes = λ done fix. record { done = done; fix = fix } in
    let begin = parting c.args.list.now.items (without_edits c.args.message.now self.applicability) in
    let here = parting l.list.items l.fix in
    let next = fold_next (with_item name) begin self.edits l.item-index x within is
    ∙ ap (λ (p : SplitFixes). with_item name p x) l.invariant in
    elim c.if-eq.branch [
      | then-eq+in_ok-edit+in_ok-fix w ↦
          let hit : is_in name x ≡ true = search rules in
          next ∙ ap (λ b. if b then with_edit here x.edit else here) hit
          ∙ ap (with_edit here) (sym w.in_ok-edit.ensures) ∙ w.in_ok-fix.ensures
          ∙ ap₂ parting (ap (λ v. v.items) (sym w.list-is)) (sym w.fix-is)
      | else-eq w ↦
          let miss : is_in name x ≡ false = search rules in
          next ∙ ap (λ b. if b then with_edit here x.edit else here) miss
          ∙ ap₂ parting (ap (λ v. v.items) (sym w.list-is)) (sym w.fix-is)
    ]

pub returns : goal.returns
returns c =
    let self = c.args.self.now in
    let full : length self.edits ≤ c.loop-item.item-index =
    subst (λ (l : List FileEdit). length l ≤ c.loop-item.item-index)
    (c.as_slice-item-items.ensures.value ∙ ap (λ (o : Suggestion). o.edits) c.self.view_is) c.loop-item-test.false
    in
    subst (λ (l : List FixModel). OnOk c.push_fix.result (c.push_fix.new.list.items ≡ l))
    (all_parted c.args.name.now c.args.message.now self.applicability c.args.list.now.items c.loop-item.list.items
    c.loop-item.fix self.edits c.loop-item.item-index full c.loop-item.invariant) c.push_fix.ensures
