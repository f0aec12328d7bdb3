use Rattle.std.proofs.Common.{◌≡◌, ℕ, ◌+◌, ◌<◌, List, [], ◌∷◌, ◌++◌, Bool, true, false, length, get_or, take, map}
use Rattle.std.proofs.Common.{filter, ap, ap₂, sym, rules, tests, append-nil, ◌∙◌}
use Rattle.std.specs.Prelude.{if◌then◌else◌}
use Rattle.std.proofs.lemmas.List.{map-append, take_all}
use Rattle.std.proofs.lemmas.List.Elements.{filter-append}
use Rattle.miette_read.specs.rules.Reports.{is_listed, label_of, labels_in}
use Rattle.miette_read.specs.rules.AnnotationLabels.{FileLabel}
use Rattle.miette_read.proofs.Steps.{next_taken}
use Rattle.miette_read.proofs.reports.labels_in.Goals.{then-mark-list+in_ok-label+in_ok-push_item, else-mark-list}
use Rattle.miette_read.proofs.reports.labels_in.Goals as goal

next_labels : (marks : List FileLabel) (n i : ℕ) (m : FileLabel) (b : Bool) → i < length marks → m ≡ get_or marks i m
    → is_listed n m ≡ b
    → labels_in (take (i + 1) marks) n ≡ labels_in (take i marks) n ++ map label_of (if b then m ∷ [] else [])
next_labels marks n i m b h is e =
    ap (λ l. labels_in l n) (next_taken marks i m h is)
    ∙ ap (map label_of) (filter-append (is_listed n) (take i marks) (m ∷ []))
    ∙ map-append label_of (filter (is_listed n) (take i marks)) (filter (is_listed n) (m ∷ []))
    ∙ ap (λ t. labels_in (take i marks) n ++ map label_of (if t then m ∷ [] else [])) e

pub loop-mark-preserved : goal.loop-mark-preserved
loop-mark-preserved c =
    let l = c.loop-mark in
    let marks = c.args.marks.now in
    let m = c.mark-item.result in
    elim c.if-mark-list.branch [
      | then-mark-list+in_ok-label+in_ok-push_item w ↦
          let listed : is_listed c.args.list m ≡ true = search (rules, tests) in
          ap (λ v. v.items) w.labels-is ∙ w.in_ok-push_item.ensures
          ∙ ap₂ (λ ls t. ls ++ t ∷ []) l.invariant w.in_ok-label.ensures
          ∙ sym (next_labels marks c.args.list l.mark-index m true c.loop-mark-test.true c.mark-item.is listed)
      | else-mark-list w ↦
          let other : is_listed c.args.list m ≡ false = search (rules, tests) in
          ap (λ v. v.items) w.labels-is ∙ l.invariant
          ∙ sym (append-nil (labels_in (take l.mark-index marks) c.args.list))
          ∙ sym (next_labels marks c.args.list l.mark-index m false c.loop-mark-test.true c.mark-item.is other)
    ]

pub returns : goal.returns
returns c =
    c.loop-mark.invariant
    ∙ ap (λ marks. labels_in marks c.args.list)
    (take_all c.loop-mark.mark-index c.args.marks.now c.loop-mark-test.false)
