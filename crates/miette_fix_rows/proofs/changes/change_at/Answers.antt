use Rattle.std.proofs.Common.{◌+◌, refl, subst}
use Rattle.miette_fix_rows.specs.steps.Parting.{IsSized}
use Rattle.miette_fix_rows.proofs.Parting.{change_is}
use Rattle.miette_fix_rows.proofs.changes.change_at.Goals as goal

pub returns : goal.returns
returns c =
    change_is c.args.from c.args.first (c.args.from + c.in_ok-sizes.sizes.removed_from) c.max.result c.args.old.now
    c.args.text.items _ c.in_ok-sizes.sizes
    (subst (λ t. IsSized c.args.old.now t c.in_ok-sizes.sizes) c.deref.ensures.value c.in_ok-sizes.ensures) refl
    c.max.ensures refl
