use Rattle.std.proofs.Common.{◌≡◌, ◌-◌}
use Rattle.miette_read.specs.rules.AnnotationLabels.{first_accepting, accepts_label}
use Rattle.miette_read.proofs.label_lists.NewLabel.list.Given as goal

-- none of those that are passed is open
abbrev pub invariant-loop-list : goal.invariant-loop-list
invariant-loop-list l =
    let opens = accepts_label l.marks l.self.name.now l.self.bytes.now l.self.stretch l.self.own in
    first_accepting opens 0 l.count ≡ first_accepting opens l.list (l.count - l.list)
