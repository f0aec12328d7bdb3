use Rattle.std.proofs.Common.{◌≡◌, ◌≤◌, ℕ, arith}
use Rattle.miette_line_breaks.proofs.PrintableTable.{code-broken, code-hyphen, code-within, kind-none}
use Rattle.miette_line_breaks.proofs.PrintableTable.{kind-row, kind-small, kind_of, next_of}
use Rattle.miette_line_breaks.proofs.PrintableTable.{step-none}
use Rattle.miette_line_breaks.proofs.ascii_state.AsciiState.step.Goals as goal

pub bounds-kind : goal.bounds-kind
bounds-kind c = kind-small c.args.c c.if-code-ge128.false

pub returns-then-next-lt-BROKEN : goal.returns-then-next-lt-BROKEN
returns-then-next-lt-BROKEN c =
    code-within c.args.self.row c.args.c c.args.self.small c.if-code-ge128.false c.if-next-lt-BROKEN.true

pub invariant_of-result-then-next-eq-BROKEN : goal.invariant_of-result-then-next-eq-BROKEN
invariant_of-result-then-next-eq-BROKEN c = record { small = kind-row c.args.c c.if-code-ge128.false }

pub returns-then-next-eq-BROKEN : goal.returns-then-next-eq-BROKEN
returns-then-next-eq-BROKEN c =
    code-broken c.args.self.row c.args.c c.args.self.small c.if-code-ge128.false c.if-next-eq-BROKEN.true

pub invariant_of-result-then-next-eq-HYPHEN : goal.invariant_of-result-then-next-eq-HYPHEN
invariant_of-result-then-next-eq-HYPHEN c = record { small = kind-row c.args.c c.if-code-ge128.false }

pub returns-then-next-eq-HYPHEN : goal.returns-then-next-eq-HYPHEN
returns-then-next-eq-HYPHEN c =
    code-hyphen c.args.self.row c.args.c c.args.self.small c.if-code-ge128.false c.if-next-eq-HYPHEN.true

above : (n : ℕ) → 28 ≤ n → (n ≡ 28 → ⊥) → (n ≡ 29 → ⊥) → 30 ≤ n
above n h e f = omega (arith, h, e, f)

pub returns : goal.returns
returns c =
    let code = c.args.c in
    let row = c.args.self.row in
    let k = kind_of code in
    let below = c.if-code-ge128.false in
    let next : 30 ≤ next_of row k =
    above (next_of row k) c.if-next-lt-BROKEN.false c.if-next-eq-BROKEN.false c.if-next-eq-HYPHEN.false in
    kind-none code below (step-none row k c.args.self.small (kind-small code below) next)
