use Rattle.std.proofs.Common.{◌≡◌, ◌∙◌, ◌+◌, ◌||◌, Bool, not, ap, ap₂, drop, if◌then◌else◌, sym}
use Rattle.miette_text.specs.steps.Ends.{letters_len}
use Rattle.miette_text.specs.views.Breaks.{passed_len, piece_len, state_at}
use Rattle.miette_text.proofs.Passing.{passed-piece, passed-state}
use Rattle.miette_text.proofs.wrapping.unicode_words.passed_len.Goals as goal

pub returns-clause-len : goal.returns-clause-len
returns-clause-len g c =
    let s = c.args.state in
    let j = c.args.is_joined in
    let cs = g.C.Codes.codes c.args.codes in
    let e : passed_len s j cs ≡ c.letters_len.result =
    ap₂ (λ (a b : Bool). if a || b then 0 else letters_len cs) c.if-is_joined.false
    (ap not (sym c.is_in_word.ensures.value ∙ c.if-not-is_in_word.false)) ∙ sym c.letters_len.ensures.value in
    passed-piece s j cs c.is_in_word.ensures.letters ∙ ap (λ n. n + piece_len s j (drop n cs)) e

pub returns-clause-state : goal.returns-clause-state
returns-clause-state g c =
    let s = c.args.state in
    let j = c.args.is_joined in
    let cs = g.C.Codes.codes c.args.codes in
    let e : passed_len s j cs ≡ c.letters_len.result =
    ap₂ (λ (a b : Bool). if a || b then 0 else letters_len cs) c.if-is_joined.false
    (ap not (sym c.is_in_word.ensures.value ∙ c.if-not-is_in_word.false)) ∙ sym c.letters_len.ensures.value in
    ap (λ n. state_at s n cs) (sym e) ∙ passed-state s j cs c.is_in_word.ensures.letters
