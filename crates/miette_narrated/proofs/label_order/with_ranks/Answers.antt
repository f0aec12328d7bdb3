use Rattle.std.proofs.Common.{ℕ, ◌+◌, ◌<◌, ◌≡◌, List, [], ◌∷◌, ◌++◌, get_or, drop, rules, length, sym, ap, ◌∙◌}
use Rattle.std.proofs.Common.{append_assoc, append-nil}
use Rattle.std.proofs.lemmas.List.{at_drop_more, at_drop_all, length-append}
use Rattle.miette_labels.specs.declared.placed.PlacedLabel.{PlacedLabel}
use Rattle.miette_narrated.specs.declared.label_order.RankedLabel.{RankedLabel}
use Rattle.miette_narrated.specs.steps.Ends.{ranked_labels}
use Rattle.miette_narrated.proofs.label_order.with_ranks.Goals as goal

-- a label more with its rank
ranked_more :
    (placed : List PlacedLabel) (made new : List RankedLabel) (rank i : ℕ) (d : PlacedLabel) → i < length placed → rank
    ≡ length made →
    new ≡ made ++ record { rank = rank; label = get_or placed i d } ∷ [] → made
    ++ ranked_labels (length made) (drop i placed) ≡ ranked_labels 0 placed →
    new ++ ranked_labels (length new) (drop (i + 1) placed) ≡ ranked_labels 0 placed
ranked_more placed made new rank i d inside rank_is new_is was =
    let own : RankedLabel = record { rank = rank; label = get_or placed i d } in
    let left = drop (i + 1) placed in
    ap (λ (xs : List RankedLabel). xs ++ ranked_labels (length xs) left) new_is
    ∙ ap (λ n. (made ++ own ∷ []) ++ ranked_labels n left) (length-append made (own ∷ []))
    ∙ append_assoc made (own ∷ []) (ranked_labels (length made + 1) left)
    ∙ ap (λ (n : ℕ). made ++ record { rank = n; label = get_or placed i d } ∷ ranked_labels (length made + 1) left)
    rank_is
    ∙ sym (at_drop_more (λ ps. made ++ ranked_labels (length made) ps) placed i d inside)
    ∙ was

pub loop-label-init : goal.loop-label-init
loop-label-init c = ap (λ (xs : List RankedLabel). xs ++ ranked_labels (length xs) c.args.placed.now)
    c.new-made.ensures.items

pub loop-label-preserved : goal.loop-label-preserved
loop-label-preserved c =
    ranked_more c.args.placed.now c.loop-label.made.items c.push.new.self.items c.len-rank.result
    c.loop-label.label-index _ c.loop-label-test.true (search rules)
    c.in_ok-push.ensures.items c.loop-label.invariant

pub returns : goal.returns
returns c =
    let made = c.loop-label.made.items in
    sym (append-nil made) ∙ sym (at_drop_all (λ ps. made ++ ranked_labels (length made) ps) c.args.placed.now
    c.loop-label.label-index c.loop-label-test.false)
    ∙ c.loop-label.invariant
