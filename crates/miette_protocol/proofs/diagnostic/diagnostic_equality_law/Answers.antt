-- Field by field.
use Rattle.std.proofs.Common.{ap, rules, refl}
use Rattle.std.specs.Prelude.{string_bytes}
use Rattle.std.proofs.lemmas.Slice.Eq.{slice_eq-Decides}
use Rattle.std.proofs.lemmas.Bool.Decides.{Decides-and}
use Rattle.miette_lines.proofs.Equality.{lifted, options, texts}
use Rattle.miette_protocol.proofs.diagnostic.diagnostic_equality_law.Goals as goal

pub returns : goal.returns
returns c a b =
    let severity = options _ (λ x y. search rules) a.severity b.severity in
    let labels = lifted (λ list. list.items) _ (λ x y. slice_eq-Decides (λ k l. search rules) x.items y.items _ refl)
    a.labels b.labels in
    let all = Decides-and _ _ (texts a.message b.message)
    (Decides-and _ _ (lifted string_bytes _ texts a.code b.code)
    (Decides-and _ _ severity
    (Decides-and _ _ (lifted string_bytes _ texts a.help b.help)
    (Decides-and _ _ (lifted string_bytes _ texts a.url b.url) labels)))) in (
      λ h i. let e = all.0 h in record {
        message = e.0 i;
        code = e.1.0 i;
        severity = e.1.1.0 i;
        help = e.1.1.1.0 i;
        url = e.1.1.1.1.0 i;
        labels = e.1.1.1.1.1 i;
      },
      λ e. all.1 (
        ap (λ m. m.message) e,
        (
          ap (λ m. m.code) e,
          (
            ap (λ m. m.severity) e,
            (ap (λ m. m.help) e, (ap (λ m. m.url) e, ap (λ m. m.labels) e)),
          ),
        ),
      ),
    )
