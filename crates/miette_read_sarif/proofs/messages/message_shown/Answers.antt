use Rattle.std.proofs.Common.{◌≡◌, ℕ, List, ◌++◌, ap, ◌∙◌, get_or, drop, string_bytes, take, rules}
use Rattle.std.specs.Prelude.{slice_index}
use Rattle.std.proofs.lemmas.Str.{IsCharBoundary-before_ascii}
use Rattle.miette_read.specs.views.Values.{viewed}
use Rattle.miette_read_sarif.specs.rules.Messages.{is_mark, piece_of, message_shown, shown_after}
use Rattle.miette_read_sarif.specs.views.Pieces.{Cut, cut}
use Rattle.miette_read_sarif.proofs.PieceSteps.{next_mark, none_left, piece_written}
use Rattle.miette_read_sarif.proofs.messages.message_shown.Goals as goal

pub range-requires-clause-end_boundary : goal.range-requires-clause-end_boundary
range-requires-clause-end_boundary c =
    let next = next_mark c.loop-at.rest.now c.in-Some.at c.in-Some.ensures in
    IsCharBoundary-before_ascii _ _ next.inside next.low

pub range_from-requires : goal.range_from-requires
range_from-requires c = λ _.
    let next = next_mark c.loop-at.rest.now c.in-Some.at c.in-Some.ensures in
    IsCharBoundary-before_ascii _ _ next.inside next.low

pub piece_of-piece-requires : goal.piece_of-piece-requires
piece_of-piece-requires c =
    let next = next_mark c.loop-at.rest.now c.in-Some.at c.in-Some.ensures in
    ap (λ l. is_mark (get_or l 0 0)) c.range_from.ensures.value ∙ next.here

pub loop-at-preserved : goal.loop-at-preserved
loop-at-preserved c =
    let arguments = viewed c.args.arguments.now in
    let rest = c.loop-at.rest.now in
    let at = c.in-Some.at in
    let in_link = c.loop-at.in_link in
    let cut_off = λ (t : List ℕ). cut (piece_of arguments in_link (slice_index t 0) (drop 1 t)) (drop 1 t) in
    let is : c.piece_of-piece.result ≡ cut_off (drop at rest) =
    c.piece_of-piece.ensures ∙ ap cut_off c.range_from.ensures.value in
    let made = c.piece.view_is ∙ is in
    let run : string_bytes c.push_str.new.self ≡ string_bytes c.loop-at.out ++ take at rest =
    search rules in
    let written = piece_written arguments in_link (string_bytes c.loop-at.out) (string_bytes c.push_str.new.self)
    (string_bytes c.push_str-in-Some.new.self) rest c.left-rest.result.now (message_shown arguments c.args.text.now) at
    (next_mark rest at c.in-Some.ensures) c.loop-at.invariant.0 run
    (c.in_ok-push_str-2.ensures.bytes ∙ ap (λ (p : Cut). string_bytes c.push_str.new.self ++ p.message_shown) made)
    (c.left-rest.ensures ∙ ap (λ (p : Cut). p.rest) is) in (
      ap (λ (p : Cut). string_bytes c.push_str-in-Some.new.self
          ++ shown_after arguments p.in_link 0 c.left-rest.result.now) made
          ∙ written,
      c.left-rest.utf8,
    )

pub returns : goal.returns
returns c =
    let rest = c.loop-at.rest.now in
    let same : shown_after (viewed c.args.arguments.now) c.loop-at.in_link 0 rest ≡ rest =
    none_left (viewed c.args.arguments.now) c.loop-at.in_link rest c.in_default.ensures in
    search rules
