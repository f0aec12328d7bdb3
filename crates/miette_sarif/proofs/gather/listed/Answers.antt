use Rattle.std.proofs.Common.{◌≡◌, ℕ, ◌+◌, ◌<◌, List, ◌∷◌, ◌++◌, ◌∙◌, add-one, ap, append-nil, arith, refl}
use Rattle.std.proofs.Common.{drop, drop-cons, get_or, length, sym}
use Rattle.std.proofs.lemmas.List.{drop_all}
use Rattle.miette_protocol.specs.views.Meaning.{Label}
use Rattle.miette_sarif.specs.views.Grouped.{labels_in}
use Rattle.miette_sarif.proofs.Keys.{map_pushed, one_pushed}
use Rattle.miette_sarif.proofs.gather.listed.Goals as goal
use denote.Ref.{Bor}

next_label : (xs : List Label) (i : ℕ) (d : Label) → i < length xs → d ≡ get_or xs i d
    → drop i xs ≡ d ∷ drop (i + 1) xs
next_label xs i d h is =
    drop-cons xs i d h ∙ ap (λ n. get_or xs i d ∷ drop n xs) (sym (add-one i)) ∙ ap (λ x. x ∷ drop (i + 1) xs) (sym is)

pub loop-label-preserved : goal.loop-label-preserved
loop-label-preserved c =
    let l = c.loop-label in
    let labels = c.args.labels.now in
    one_pushed (labels_in l.list.items) (labels_in c.push.new.self.items) _ c.label-item.result
    (drop l.label-index labels) (drop (l.label-index + 1) labels) labels
    (map_pushed (λ (x : Bor Label). x.now) l.list.items c.push.new.self.items _ c.in_ok-push.ensures.items) refl
    (next_label labels l.label-index c.label-item.result c.loop-label-test.true c.label-item.is) l.invariant

pub returns : goal.returns
returns c =
    let l = c.loop-label in
    sym (append-nil (labels_in l.list.items)) ∙ ap (λ ls. labels_in l.list.items ++ ls)
    (sym (drop_all l.label-index c.args.labels.now (omega arith))) ∙ l.invariant
