use Rattle.std.proofs.Common.{◌≡◌, List, [], ◌∷◌, ◌++◌, Bool, true, false, Bor, take, ◌+◌}
use Rattle.std.proofs.Common.{ap, ap₂, refl, sym, rules, ◌∙◌}
use Rattle.std.specs.Prelude.{◌||◌, if◌then◌else◌}
use Rattle.std.specs.List.{list_any}
use Rattle.std.specs.Option.{option_copied}
use Rattle.std.proofs.lemmas.List.{map-append, take_all}
use Rattle.miette_read.specs.rules.SuggestedFixes.{FileEdit, is_in}
use Rattle.miette_read.specs.rules.Reports.{is_main, first_edits_of_others, with_other}
use Rattle.miette_read.specs.views.Edits.{edits_behind}
use Rattle.miette_read.proofs.Steps.{fold_next}
use Rattle.miette_read.proofs.advice.first_edits_of_others.Goals.{then-not-is_main+then-not-any_in+in_ok-push_item}
use Rattle.miette_read.proofs.advice.first_edits_of_others.Goals.{else-not-is_main}
use Rattle.miette_read.proofs.advice.first_edits_of_others.Goals.{else-not-is_main-via-then-not-is_main+else-not-any_in}
use Rattle.miette_read.proofs.advice.first_edits_of_others.Goals.{else-not-is_main-via-else-not-is_main}
use Rattle.miette_read.proofs.advice.first_edits_of_others.Goals as goal

chosen : (a b r s : Bool) (found : List FileEdit) (e : FileEdit) → a ≡ r → b ≡ s
    → (if a || b then found else found ++ e ∷ []) ≡ (if r || s then found else found ++ e ∷ [])
chosen a b r s found e p q = ap₂ (λ t u. if t || u then found else found ++ e ∷ []) p q

pub loop-edit-preserved : goal.loop-edit-preserved
loop-edit-preserved c =
    let l = c.loop-edit in
    let main = option_copied c.args.main in
    let e = c.edit-item.result in
    let found = edits_behind l.list.items in
    let any = list_any (is_in e.name) found in
    let next : with_other main found e ≡ first_edits_of_others main (take (l.edit-index + 1) c.args.edits.now) =
    ap (λ es. with_other main es e) l.invariant
    ∙ sym (fold_next (with_other main) [] c.args.edits.now l.edit-index e c.loop-edit-test.true c.edit-item.is)
    in
    elim c.if-not-is_main.branch [
      | then-not-is_main+then-not-any_in+in_ok-push_item w ↦
          let new : any ≡ false = search rules in
          ap (λ v. edits_behind v.items) w.list-is ∙ ap edits_behind w.in_ok-push_item.ensures
          ∙ map-append (λ (b : Bor FileEdit). b.now) l.list.items _
          ∙ sym (chosen (is_main main e) any false false found e (sym c.is_main.ensures ∙ w.if-not-is_main.true) new)
          ∙ next
      | else-not-is_main w ↦
          let same : found ≡ with_other main found e = elim w.else-not-is_main.branch [
            | else-not-is_main-via-then-not-is_main+else-not-any_in w' ↦
                let there : any ≡ true = search rules in
                sym (chosen (is_main main e) any false true found e (sym c.is_main.ensures ∙ w'.if-not-is_main.true)
                there)
            | else-not-is_main-via-else-not-is_main w' ↦
                sym (chosen (is_main main e) any true any found e (sym c.is_main.ensures ∙ w'.if-not-is_main.false)
                refl)
          ] in
          ap (λ v. edits_behind v.items) w.list-is ∙ same ∙ next
    ]

pub returns : goal.returns
returns c =
    c.loop-edit.invariant
    ∙ ap (first_edits_of_others (option_copied c.args.main))
    (take_all c.loop-edit.edit-index c.args.edits.now c.loop-edit-test.false)
