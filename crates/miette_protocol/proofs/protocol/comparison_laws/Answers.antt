-- Labels are compared field by field.
use Rattle.std.proofs.Common.{ap, refl}
use Rattle.std.specs.Cmp.{unsigned_Decides, booleans_Decides}
use Rattle.std.proofs.lemmas.Slice.Eq.{slice_eq-Decides}
use Rattle.std.proofs.lemmas.Bool.Decides.{Decides-and}
use Rattle.miette_lines.proofs.Equality.{options}
use Rattle.miette_protocol.proofs.protocol.comparison_laws.Goals as goal

pub returns-clause-equal_labels : goal.returns-clause-equal_labels
returns-clause-equal_labels c a b =
    let all = Decides-and _ _ (options _ (λ x y. slice_eq-Decides unsigned_Decides x y _ refl) a.text b.text)
    (Decides-and _ _ (unsigned_Decides a.span.offset b.span.offset)
    (Decides-and _ _ (unsigned_Decides a.span.len b.span.len)
    (Decides-and _ _ (booleans_Decides a.primary b.primary) (options _ unsigned_Decides a.context b.context)))) in (
      λ h i. let e = all.0 h in record {
        text = e.0 i;
        span = record { offset = e.1.0 i; len = e.1.1.0 i };
        primary = e.1.1.1.0 i;
        context = e.1.1.1.1 i;
      },
      λ e. all.1 (
        ap (λ l. l.text) e,
        (
          ap (λ l. l.span.offset) e,
          (
            ap (λ l. l.span.len) e,
            (ap (λ l. l.primary) e, ap (λ l. l.context) e),
          ),
        ),
      ),
    )
