-- Field by field.
use Rattle.std.proofs.Common.{ap, rules}
use Rattle.std.proofs.lemmas.Bool.Decides.{Decides-and}
use Rattle.std.specs.Cmp.{booleans_Decides, unsigned_Decides}
use Rattle.miette_lines.proofs.Equality.{options}
use Rattle.miette_style.proofs.Equality.{spelled}
use Rattle.miette_style.proofs.laws.comparison_laws.Goals as goal

pub returns-clause-equal_styles : goal.returns-clause-equal_styles
returns-clause-equal_styles c a b =
    let colour = options _ (λ x y. search rules) a.fg b.fg in
    let all = (Decides-and _ _ colour (Decides-and _ _ (booleans_Decides a.bold b.bold)
    (Decides-and _ _ (booleans_Decides a.dimmed b.dimmed)
    (Decides-and _ _ (booleans_Decides a.italic b.italic) (booleans_Decides a.underline b.underline))))) in (
      λ h i. let e = all.0 h in record {
        fg = e.0 i;
        bold = e.1.0 i;
        dimmed = e.1.1.0 i;
        italic = e.1.1.1.0 i;
        underline = e.1.1.1.1 i;
      },
      λ e. all.1 (
        ap (λ s. s.fg) e,
        (
          ap (λ s. s.bold) e,
          (
            ap (λ s. s.dimmed) e,
            (ap (λ s. s.italic) e, ap (λ s. s.underline) e),
          ),
        ),
      ),
    )

pub returns-clause-equal_characters : goal.returns-clause-equal_characters
returns-clause-equal_characters c a b =
    let all = (Decides-and _ _ (unsigned_Decides a.hbar b.hbar)
    (Decides-and _ _ (unsigned_Decides a.vbar b.vbar) (Decides-and _ _ (unsigned_Decides a.xbar b.xbar)
    (Decides-and _ _ (unsigned_Decides a.vbar_break b.vbar_break)
    (Decides-and _ _ (unsigned_Decides a.uarrow b.uarrow)
    (Decides-and _ _ (unsigned_Decides a.rarrow b.rarrow)
    (Decides-and _ _ (unsigned_Decides a.ltop b.ltop) (Decides-and _ _ (unsigned_Decides a.mtop b.mtop)
    (Decides-and _ _ (unsigned_Decides a.rtop b.rtop) (Decides-and _ _ (unsigned_Decides a.lbot b.lbot)
    (Decides-and _ _ (unsigned_Decides a.rbot b.rbot) (Decides-and _ _ (unsigned_Decides a.mbot b.mbot)
    (Decides-and _ _ (unsigned_Decides a.lbox b.lbox) (Decides-and _ _ (unsigned_Decides a.rbox b.rbox)
    (Decides-and _ _ (unsigned_Decides a.lcross b.lcross)
    (Decides-and _ _ (unsigned_Decides a.rcross b.rcross)
    (Decides-and _ _ (unsigned_Decides a.underbar b.underbar)
    (Decides-and _ _ (unsigned_Decides a.underline b.underline)
    (Decides-and _ _ (spelled a.error b.error) (Decides-and _ _ (spelled a.warning b.warning)
    (spelled a.advice b.advice))))))))))))))))))))) in (
      λ h i. let e = all.0 h in record {
        hbar = e.0 i;
        vbar = e.1.0 i;
        xbar = e.1.1.0 i;
        vbar_break = e.1.1.1.0 i;
        uarrow = e.1.1.1.1.0 i;
        rarrow = e.1.1.1.1.1.0 i;
        ltop = e.1.1.1.1.1.1.0 i;
        mtop = e.1.1.1.1.1.1.1.0 i;
        rtop = e.1.1.1.1.1.1.1.1.0 i;
        lbot = e.1.1.1.1.1.1.1.1.1.0 i;
        rbot = e.1.1.1.1.1.1.1.1.1.1.0 i;
        mbot = e.1.1.1.1.1.1.1.1.1.1.1.0 i;
        lbox = e.1.1.1.1.1.1.1.1.1.1.1.1.0 i;
        rbox = e.1.1.1.1.1.1.1.1.1.1.1.1.1.0 i;
        lcross = e.1.1.1.1.1.1.1.1.1.1.1.1.1.1.0 i;
        rcross = e.1.1.1.1.1.1.1.1.1.1.1.1.1.1.1.0 i;
        underbar = e.1.1.1.1.1.1.1.1.1.1.1.1.1.1.1.1.0 i;
        underline = e.1.1.1.1.1.1.1.1.1.1.1.1.1.1.1.1.1.0 i;
        error = e.1.1.1.1.1.1.1.1.1.1.1.1.1.1.1.1.1.1.0 i;
        warning = e.1.1.1.1.1.1.1.1.1.1.1.1.1.1.1.1.1.1.1.0 i;
        advice = e.1.1.1.1.1.1.1.1.1.1.1.1.1.1.1.1.1.1.1.1 i;
      },
      λ e. all.1 (
        ap (λ x. x.hbar) e,
        (
          ap (λ x. x.vbar) e,
          (
            ap (λ x. x.xbar) e,
            (
              ap (λ x. x.vbar_break) e,
              (
                ap (λ x. x.uarrow) e,
                (
                  ap (λ x. x.rarrow) e,
                  (
                    ap (λ x. x.ltop) e,
                    (
                      ap (λ x. x.mtop) e,
                      (
                        ap (λ x. x.rtop) e,
                        (
                          ap (λ x. x.lbot) e,
                          (
                            ap (λ x. x.rbot) e,
                            (
                              ap (λ x. x.mbot) e,
                              (
                                ap (λ x. x.lbox) e,
                                (
                                  ap (λ x. x.rbox) e,
                                  (
                                    ap (λ x. x.lcross) e,
                                    (
                                      ap (λ x. x.rcross) e,
                                      (
                                        ap (λ x. x.underbar) e,
                                        (
                                          ap (λ x. x.underline) e,
                                          (
                                            ap (λ x. x.error) e,
                                            (
                                              ap (λ x. x.warning) e,
                                              ap (λ x. x.advice) e,
                                            ),
                                          ),
                                        ),
                                      ),
                                    ),
                                  ),
                                ),
                              ),
                            ),
                          ),
                        ),
                      ),
                    ),
                  ),
                ),
              ),
            ),
          ),
        ),
      ),
    )
