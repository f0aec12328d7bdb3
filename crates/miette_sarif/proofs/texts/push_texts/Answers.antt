use Rattle.std.proofs.Common.{ap, arith, drop, string_bytes, ◌+◌, ◌∙◌}
use Rattle.std.proofs.lemmas.Result.{on_ok_weaker}
use Rattle.miette_json.specs.rules.Writing.{closed, opened, with_text}
use Rattle.miette_sarif.proofs.Gathers.{next_in, none_in}
use Rattle.miette_sarif.proofs.Growing.{text_item_put, texts_end}
use Rattle.miette_sarif.specs.views.Findings.{texts_of}
use Rattle.miette_sarif.proofs.texts.push_texts.Goals as goal

pub loop-text-preserved : goal.loop-text-preserved
loop-text-preserved c =
    let l = c.loop-text in
    let texts = c.args.texts.now in
    text_item_put (texts_of (drop l.text-index texts)) (texts_of (drop (l.text-index + 1) texts))
    (string_bytes c.text-item.result) l.json c.value_text.new.self _
    (next_in string_bytes texts l.text-index c.text-item.result c.loop-text-test.true c.text-item.is)
    (c.in_ok-value_text.ensures ∙ ap (λ t. with_text t l.json) c.as_str.ensures.value) l.invariant

pub returns : goal.returns
returns c =
    let l = c.loop-text in
    let texts = c.args.texts.now in
    on_ok_weaker c.end_list.result (λ put. put ∙ ap (closed 93) (texts_end (texts_of (drop l.text-index texts))
    (texts_of texts) (opened 91 c.args.json.now) l.json (none_in string_bytes texts l.text-index (omega arith))
    l.invariant)) c.end_list.ensures
