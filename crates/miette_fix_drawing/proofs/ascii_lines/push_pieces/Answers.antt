use Rattle.std.proofs.Common.{◌∙◌, ap, take, drop, refl}
use Rattle.std.specs.List.{list_all}
use Rattle.std.proofs.lemmas.Result.{on_ok_weaker}
use Rattle.miette_columns.specs.views.Printable.{is_printable}
use Rattle.miette_columns.proofs.Plaining.{printable_taken}
use Rattle.miette_snippet_rules.proofs.CutPlain.{drop_least, take_least}
use Rattle.miette_snippet_rules.proofs.PlainCells.{dropped}
use Rattle.miette_fix_drawing.proofs.ChangedTexts.{piece_next, pieces_left}
use Rattle.miette_fix_drawing.proofs.ascii_lines.push_pieces.Goals as goal

pub push_run-requires : goal.push_run-requires
push_run-requires g c =
    ap (list_all is_printable) (c.split_at.ensures.front ∙ ap (λ k. take k c.loop-piece.rest.now) c.min.ensures
    ∙ take_least _ c.loop-piece.rest.now) ∙ printable_taken _ c.loop-piece.rest.now
    c.loop-piece.invariant.printable

pub loop-piece-preserved : goal.loop-piece-preserved
loop-piece-preserved g c =
    let rest = c.loop-piece.rest.now in
    let own = c.split_at.ensures.front ∙ ap (λ k. take k rest) c.min.ensures ∙ take_least _ rest in
    let later = c.split_at.ensures.back ∙ ap (λ k. drop k rest) c.min.ensures ∙ drop_least _ rest in
    record {
      printable = ap (list_all is_printable) later ∙ dropped _ rest c.loop-piece.invariant.printable;
      told = piece_next c.args.pieces.now c.loop-piece.piece-index _ _ _ rest c.split_at.result.0.now
          c.split_at.result.1.now c.loop-piece.page c.push_run.new.page _ c.loop-piece-test.true refl refl own later
          c.in_ok-push_run.ensures c.loop-piece.invariant.told;
    }

pub returns : goal.returns
returns g c =
    on_ok_weaker c.push_run-2.result (λ h.
    pieces_left c.args.pieces.now c.loop-piece.piece-index c.loop-piece.rest.now c.loop-piece.page
    c.push_run-2.new.page _ c.loop-piece-test.false h c.loop-piece.invariant.told) c.push_run-2.ensures
