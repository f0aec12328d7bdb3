use Rattle.std.proofs.Common.{◌≡◌, ◌∙◌, ap, arith, subst, sym, rules}
use Rattle.std.specs.Prelude.{IsUtf8, is_err}
use Rattle.miette_protocol.specs.rules.Reading.{Source, contents_of}
use Rattle.miette_tree.specs.views.Owned.{owned_source}
use Rattle.miette_tree.proofs.WholeReads.{nowhere}
use Rattle.miette.proofs.Texts.{always_ok, most, whole}
use Rattle.miette.proofs.source_text.text_in.Goals as goal

pub text_of-requires : goal.text_of-requires
text_of-requires c =
    let source : Source = owned_source c.args.source.now in
    let begin : c.new-begin.result ≡ nowhere = search rules in
    let read = whole source c.in-Ok.contents c.data.result.now
    (c.in-Ok.ensures.1 ∙ ap (λ span. contents_of source span 1 most) begin) c.data.ensures
    (omega (arith, c.data.type_inv.1)) in
    subst IsUtf8 (sym read) c.requires.utf8

pub returns-in-Ok : goal.returns-in-Ok
returns-in-Ok c =
    let source : Source = owned_source c.args.source.now in
    let begin : c.new-begin.result ≡ nowhere = search rules in
    c.text_of.ensures ∙ whole source c.in-Ok.contents c.data.result.now
    (c.in-Ok.ensures.1 ∙ ap (λ span. contents_of source span 1 most) begin) c.data.ensures
    (omega (arith, c.data.type_inv.1))

pub returns-in-Err : goal.returns-in-Err
returns-in-Err c =
    let source : Source = owned_source c.args.source.now in
    let begin : c.new-begin.result ≡ nowhere = search rules in
    absurd (always_ok source c.new-begin.result c.read_span.result c.requires begin c.read_span.ensures
    (ap is_err c.in-Err.is))
