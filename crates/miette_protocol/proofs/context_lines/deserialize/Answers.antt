-- A number that was read, after a look that found no null.
use Rattle.std.proofs.Common.{◌≡◌, Bool, false, inr, subst}
use Rattle.std.specs.Prelude.{MatchBool}
use Rattle.serde.specs.Event.{nothing}
use Rattle.serde.specs.Steps.{Gives, Stays}
use Rattle.miette_protocol.proofs.context_lines.deserialize.Goals as goal

when_false : (P Q : Type 0) (b : Bool) → b ≡ false → MatchBool b P Q → Q
when_false P Q b e m = subst (λ x. MatchBool x P Q) e m

pub returns : goal.returns
returns g c =
    let looked = when_false (Gives g.F.Format.gives c.args.from.now nothing c.take_none.new.self)
    (Stays g.F.Format.stays c.args.from.now c.take_none.new.self) c.in_ok-take_none.field-0 c.if-branch.false
    c.in_ok-take_none.ensures in
    inr (c.in_ok-number.number, c.take_none.new.self, looked, c.in_ok-number.ensures, c.context_count.ensures)
