use Rattle.std.proofs.Common.{◌≡◌, ℕ, suc, ◌+◌, ◌-◌, ◌<◌, Bool, false, ap, ◌∙◌, rules, arith}
use Rattle.std.specs.Prelude.{if◌then◌else◌}
use Rattle.miette_read.specs.rules.AnnotationLabels.{first_accepting, accepts_label}
use Rattle.miette_read.proofs.label_lists.NewLabel.list.Goals as goal

passed : (opens : ℕ → Bool) (i count : ℕ) → i < count → opens i ≡ false
    → first_accepting opens i (count - i) ≡ first_accepting opens (i + 1) (count - (i + 1))
passed opens i count h closed =
    let left : count - i ≡ suc (count - (i + 1)) = omega (arith, h) in
    ap (first_accepting opens i) left
    ∙ ap (λ b. if b then i else first_accepting opens (i + 1) (count - (i + 1))) closed

pub loop-list-preserved : goal.loop-list-preserved
loop-list-preserved c =
    let self = c.args.self.now in
    let opens = accepts_label c.args.marks.now self.name.now self.bytes.now self.stretch self.own in
    let closed : opens c.loop-list.list ≡ false = search rules in
    let more : c.loop-list.list < c.args.count = search rules in
    c.loop-list.invariant ∙ passed opens c.loop-list.list c.args.count more closed
