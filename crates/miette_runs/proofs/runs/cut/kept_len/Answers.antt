use Rattle.std.proofs.Common.{◌≡◌, ◌∙◌, ◌+◌, ◌≤◌, ℕ, Bool, false, ap, ap₂, arith, if◌then◌else◌, sym}
use Rattle.std.proofs.lemmas.Bool.Decides.{nat_tests}
use Rattle.miette_runs.specs.steps.Feeds.{are_colours}
use Rattle.miette_runs.specs.rules.Sequences.{is_line_feed}
use Rattle.miette_runs.specs.views.Interleaving.{upto}
use Rattle.miette_runs.proofs.InterleavedCuts.{kept-all, kept-next}
use Rattle.miette_runs.proofs.runs.cut.kept_len.Goals as goal
use Rattle.miette_runs.proofs.runs.cut.kept_len.Goals.{then-code-ne10, else-code-ne10+then-not-are_colours}
use Rattle.miette_runs.proofs.runs.cut.kept_len.Goals.{else-code-ne10+else-not-are_colours}

no-feed : (c : ℕ) → (c ≡ 10 → ⊥) → is_line_feed c ≡ false
no-feed c h = grind (arith, nat_tests)

pub loop-i-init : goal.loop-i-init
loop-i-init c = record { counted = kept-all c.args.codes.now c.args.tags.now; within = omega arith }

pub loop-i-preserved : goal.loop-i-preserved
loop-i-preserved c =
    let cs = c.args.codes.now in
    let i = c.loop-i.i in
    let kept = c.loop-i.kept in
    let left = c.loop-i.left.now in
    let x = c.index-codes-i.result in
    let colours : are_colours c.split_at.result.0.now ≡ are_colours (upto i left) =
    ap are_colours (c.split_at.ensures.front ∙ c.count_tags_before.ensures.before) in
    let is_kept : c.if-code-ne10.kept ≡ (if is_line_feed x then (if are_colours (upto i left) then kept else i) else i
    + 1) = elim c.if-code-ne10.branch [
      | then-code-ne10 w ↦ w.kept-is ∙ ap (λ (v : Bool). if v then (if are_colours (upto i left) then kept else i)
          else i + 1) (sym (no-feed x w.if-code-ne10.true))
      | else-code-ne10+then-not-are_colours w ↦ w.kept-is ∙ ap₂
          (λ (v u : Bool). if v then (if u then kept else i) else i + 1) (sym (ap is_line_feed w.if-code-ne10.false))
          (sym w.if-not-are_colours.true ∙ w.are_colours.ensures ∙ colours)
      | else-code-ne10+else-not-are_colours w ↦ w.kept-is ∙ ap₂
          (λ (v u : Bool). if v then (if u then kept else i) else i + 1) (sym (ap is_line_feed w.if-code-ne10.false))
          (sym w.if-not-are_colours.false ∙ w.are_colours.ensures ∙ colours)
    ] in
    let is_left : c.if-code-ne10.left ≡ c.split_at.result.1 = elim c.if-code-ne10.branch [
      | then-code-ne10 w ↦ w.left-is
      | else-code-ne10+then-not-are_colours w ↦ w.left-is
      | else-code-ne10+else-not-are_colours w ↦ w.left-is
    ] in
    let within : c.if-code-ne10.kept ≤ i + 1 = elim c.if-code-ne10.branch [
      | then-code-ne10 w ↦ omega (arith, w.kept-is)
      | else-code-ne10+then-not-are_colours w ↦ omega (arith, w.kept-is)
      | else-code-ne10+else-not-are_colours w ↦ omega (arith, w.kept-is, c.loop-i.invariant.within)
    ] in
    record {
      counted =
          kept-next kept i c.if-code-ne10.kept x cs left c.if-code-ne10.left.now c.loop-i-test.true c.index-codes-i.is
          (ap (λ b. b.now) is_left ∙ c.split_at.ensures.back ∙ c.count_tags_before.ensures.behind) is_kept
          ∙ c.loop-i.invariant.counted;
      within = within;
    }
