use Rattle.std.proofs.Common.{◌∙◌, take, drop, ap}
use Rattle.std.specs.List.{list_all}
use Rattle.miette_columns.specs.views.Printable.{is_printable}
use Rattle.miette_style.specs.rules.Themes.{theme_of}
use Rattle.miette_snippet_rules.specs.rules.CutLines.{dots}
use Rattle.miette_columns.proofs.Plaining.{printable_taken}
use Rattle.miette_snippet_rules.proofs.CutPlain.{drop_least, plain_end, plain_more, take_least}
use Rattle.miette_snippet_rules.proofs.PlainCells.{dropped}
use Rattle.miette_snippet_rules.proofs.plain_cut.push_plain_cut.Goals as goal

pub push_plain_part-requires : goal.push_plain_part-requires
push_plain_part-requires g c =
    ap (list_all is_printable) (c.split_at.ensures.front ∙ ap (λ k. take k c.loop-part.rest.now) c.min.ensures
    ∙ take_least _ c.loop-part.rest.now) ∙ printable_taken _ c.loop-part.rest.now
    c.loop-part.invariant.printable

pub loop-part-preserved : goal.loop-part-preserved
loop-part-preserved g c =
    let rest = c.loop-part.rest.now in
    let own = c.split_at.ensures.front ∙ ap (λ k. take k rest) c.min.ensures ∙ take_least _ rest in
    let later = c.split_at.ensures.back ∙ ap (λ k. drop k rest) c.min.ensures ∙ drop_least _ rest in
    record {
      printable = ap (list_all is_printable) later ∙ dropped _ rest c.loop-part.invariant.printable;
      told = plain_more (dots (theme_of c.args.theme.now)) c.args.cut.now c.loop-part.part-index _ rest
          c.split_at.result.1.now c.loop-part.page
          c.push_plain_part.new.page _ c.loop-part-test.true later (c.in_ok-push_plain_part.ensures rest own)
          c.loop-part.invariant.told;
    }

pub returns : goal.returns
returns g c =
    plain_end (dots (theme_of c.args.theme.now)) c.args.cut.now c.loop-part.part-index c.loop-part.rest.now
    c.loop-part.page _ c.loop-part-test.false c.loop-part.invariant.told
