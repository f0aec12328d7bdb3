use Rattle.std.proofs.Common.{◌≡◌, ◌∷◌, ◌∙◌, true, false, ap, sym, map, string_bytes, bytes_eq, codes, length}
use Rattle.std.proofs.Common.{rules, tests}
use Rattle.std.specs.Option.{option_copied}
use Rattle.std.proofs.lemmas.List.{nil_from_length}
use Rattle.miette_show.specs.rules.ShowWords.{folder_named, format_named}
use Rattle.miette_show.proofs.WordSteps.{asked_so_far, broken_passed, fix_passed, from_passed, none_left, others}
use Rattle.miette_show.proofs.WordSteps.{root_passed, words_left}
use Rattle.miette_show.proofs.words.FrontWords.front.Goals.{in-Some+in_default-as_str, in_default}
use Rattle.miette_show.proofs.words.FrontWords.front.Goals as goal

pub loop-word-preserved-then-str_eq : goal.loop-word-preserved-then-str_eq
loop-word-preserved-then-str_eq c =
    let l = c.loop-word in
    let word = string_bytes c.in-Some.word.now in
    let more = map string_bytes c.in-Some.more.now in
    let rest : map string_bytes l.rest.now ≡ word ∷ more = ap (map string_bytes) c.in-Some.ensures.cases.0 in
    let here : bytes_eq c.as_str.result.now (codes "--fix") ≡ true = search (rules, tests) in
    fix_passed (asked_so_far (option_copied l.root) l.from l.fix l.broken) (map string_bytes l.rest.now) word more rest
    (ap (λ w. bytes_eq w (codes "--fix")) (sym c.as_str.ensures.value) ∙ here) ∙ l.invariant

pub loop-word-preserved-then-str_eq-2 : goal.loop-word-preserved-then-str_eq-2
loop-word-preserved-then-str_eq-2 c =
    let l = c.loop-word in
    let word = string_bytes c.in-Some.word.now in
    let more = map string_bytes c.in-Some.more.now in
    let rest : map string_bytes l.rest.now ≡ word ∷ more = ap (map string_bytes) c.in-Some.ensures.cases.0 in
    let no : bytes_eq c.as_str.result.now (codes "--fix") ≡ false = search (rules, tests) in
    let here : bytes_eq c.as_str.result.now (codes "--broken-code") ≡ true = search (rules, tests) in
    broken_passed (asked_so_far (option_copied l.root) l.from l.fix l.broken) (map string_bytes l.rest.now) word
    (ap (λ w. bytes_eq w (codes "--fix")) (sym c.as_str.ensures.value) ∙ no) more rest
    (ap (λ w. bytes_eq w (codes "--broken-code")) (sym c.as_str.ensures.value) ∙ here) ∙ l.invariant

pub loop-word-preserved-then-str_eq-3 : goal.loop-word-preserved-then-str_eq-3
loop-word-preserved-then-str_eq-3 c =
    let l = c.loop-word in
    let after = c.in_ok-value-in-text-3.after.now in
    let rest = words_left string_bytes _ _ after _ _ c.in-Some.ensures.cases.0
    c.in_ok-value-in-text-3.ensures.cases.0 in
    let no : bytes_eq c.as_str.result.now (codes "--fix") ≡ false = search (rules, tests) in
    let nor : bytes_eq c.as_str.result.now (codes "--broken-code") ≡ false = search (rules, tests) in
    let here : bytes_eq c.as_str.result.now (codes "--root") ≡ true = search (rules, tests) in
    root_passed (asked_so_far (option_copied l.root) l.from l.fix l.broken) (map string_bytes l.rest.now) _
    (ap (λ w. bytes_eq w (codes "--fix")) (sym c.as_str.ensures.value) ∙ no)
    (ap (λ w. bytes_eq w (codes "--broken-code")) (sym c.as_str.ensures.value) ∙ nor) _
    c.in_ok-folder_named-in-text-3.field-0.now (map string_bytes after) rest
    (ap (λ w. bytes_eq w (codes "--root")) (sym c.as_str.ensures.value) ∙ here)
    (ap folder_named (sym c.as_str-in-text-3.ensures.value) ∙ sym c.in_ok-folder_named-in-text-3.ensures)
    ∙ l.invariant

pub loop-word-preserved : goal.loop-word-preserved
loop-word-preserved c =
    let l = c.loop-word in
    let after = c.in_ok-value-in-text-4.after.now in
    let rest = words_left string_bytes _ _ after _ _ c.in-Some.ensures.cases.0
    c.in_ok-value-in-text-4.ensures.cases.0 in
    let no : bytes_eq c.as_str.result.now (codes "--fix") ≡ false = search (rules, tests) in
    let nor : bytes_eq c.as_str.result.now (codes "--broken-code") ≡ false = search (rules, tests) in
    let neither : bytes_eq c.as_str.result.now (codes "--root") ≡ false = search (rules, tests) in
    let here : bytes_eq c.as_str.result.now (codes "--from") ≡ true = search (rules, tests) in
    from_passed (asked_so_far (option_copied l.root) l.from l.fix l.broken) (map string_bytes l.rest.now) _
    (ap (λ w. bytes_eq w (codes "--fix")) (sym c.as_str.ensures.value) ∙ no)
    (ap (λ w. bytes_eq w (codes "--broken-code")) (sym c.as_str.ensures.value) ∙ nor) _ (map string_bytes after)
    c.in_ok-from-in-text-4.from rest
    (ap (λ w. bytes_eq w (codes "--root")) (sym c.as_str.ensures.value) ∙ neither)
    (ap (λ w. bytes_eq w (codes "--from")) (sym c.as_str.ensures.value) ∙ here)
    (ap format_named (sym c.as_str-in-text-4.ensures.value) ∙ sym c.in_ok-from-in-text-4.ensures)
    ∙ l.invariant

pub returns : goal.returns
returns c =
    let l = c.loop-word in
    let now = asked_so_far (option_copied l.root) l.from l.fix l.broken in
    elim c.match-split_first.branch [
      | in-Some+in_default-as_str w ↦
          (let word = string_bytes w.in-Some.word.now in
          let rest : map string_bytes l.rest.now ≡ word ∷ map string_bytes w.in-Some.more.now =
          ap (map string_bytes) w.in-Some.ensures.cases.0
          in
          let first : bytes_eq w.as_str.result.now (codes "--fix") ≡ false = search (rules, tests) in
          let nor : bytes_eq w.as_str.result.now (codes "--broken-code") ≡ false = search (rules, tests) in
          let no : bytes_eq w.as_str.result.now (codes "--root") ≡ false = search (rules, tests) in
          let neither : bytes_eq w.as_str.result.now (codes "--from") ≡ false = search (rules, tests) in
          others now (map string_bytes l.rest.now) word
          (ap (λ w. bytes_eq w (codes "--fix")) (sym w.as_str.ensures.value) ∙ first)
          (ap (λ w. bytes_eq w (codes "--broken-code")) (sym w.as_str.ensures.value) ∙ nor)
          (map string_bytes w.in-Some.more.now) rest
          (ap (λ w. bytes_eq w (codes "--root")) (sym w.as_str.ensures.value) ∙ no)
          (ap (λ w. bytes_eq w (codes "--from")) (sym w.as_str.ensures.value) ∙ neither) ∙ l.invariant)
      | in_default w ↦
          (let none : length l.rest.now ≡ 0 = search rules in
          none_left now (map string_bytes l.rest.now)
          (ap (map string_bytes) (nil_from_length l.rest.now none)) ∙ l.invariant)
    ]
