use Rattle.std.proofs.Common.{◌∷◌, ◌++◌, [], ◌∙◌, ℕ, List, ap, append-nil, arith, map, string_bytes, sym}
use Rattle.miette_show.proofs.TerminalSteps.{words_all, words_more}
use Rattle.miette_show.proofs.terminal.push_words.Goals as goal

pub loop-word-init : goal.loop-word-init
loop-word-init c = sym (append-nil (map string_bytes c.args.words.now.items))

pub loop-word-preserved : goal.loop-word-preserved
loop-word-preserved c =
    let l = c.loop-word in
    words_more c.args.more.now l.word-index c.word-item.result (map string_bytes c.args.words.now.items)
    (map string_bytes l.words.items) (map string_bytes c.push_word.new.words.items) c.loop-word-test.true c.word-item.is
    l.invariant
    (c.in_ok-push_word.ensures
    ∙ ap (λ (b : List ℕ). map string_bytes l.words.items ++ b ∷ []) c.as_str.ensures.value)

pub returns : goal.returns
returns c =
    words_all c.args.more.now c.loop-word.word-index (map string_bytes c.args.words.now.items)
    (map string_bytes c.loop-word.words.items) (omega (arith, c.loop-word-test.false)) c.loop-word.invariant
