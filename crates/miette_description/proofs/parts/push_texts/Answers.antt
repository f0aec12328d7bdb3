use Rattle.std.proofs.Common.{rules, ◌≡◌, ℕ, suc, ◌+◌, ◌<◌, List, [], ◌∷◌, ◌++◌, String, Global, length, get_or, drop}
use Rattle.std.proofs.Common.{map, string_bytes, sym, ap, ◌∙◌, add-one, append_assoc}
use Rattle.std.proofs.Math.Seq.{drop-cons}
use Rattle.std.proofs.lemmas.List.{map-append}
use Rattle.miette_description.proofs.parts.push_texts.Goals as goal

text_here : (texts : List (String Global)) (i : ℕ) (t : String Global) → i < length texts → t ≡ get_or texts i t
    → drop i texts ≡ t ∷ drop (i + 1) texts
text_here texts i t h is =
    drop-cons texts i t h ∙ ap (λ x. x ∷ drop (suc i) texts) (sym is) ∙ ap (λ n. t ∷ drop n texts) (sym (add-one i))

one_text : (old new texts : List (String Global)) (i : ℕ) (copy t : String Global) (whole : List (List ℕ)) → new ≡ old
    ++ copy ∷ [] → i < length texts → t ≡ get_or texts i t
    → string_bytes copy ≡ string_bytes t → map string_bytes old ++ map string_bytes (drop i texts) ≡ whole
    → map string_bytes new ++ map string_bytes (drop (i + 1) texts) ≡ whole
one_text old new texts i copy t whole pushed h is same inv =
    let rest = map string_bytes (drop (i + 1) texts) in
    ap (λ xs. map string_bytes xs ++ rest) pushed ∙ ap (λ xs. xs ++ rest) (map-append string_bytes old (copy ∷ []))
    ∙ append_assoc (map string_bytes old) (string_bytes copy ∷ []) rest
    ∙ ap (λ b. map string_bytes old ++ b ∷ rest) same
    ∙ ap (λ xs. map string_bytes old ++ map string_bytes xs) (sym (text_here texts i t h is)) ∙ inv

pub loop-text-preserved : goal.loop-text-preserved
loop-text-preserved c =
    let pushed : c.push.new.self.items ≡ c.loop-text.list.items ++ c.in-Ok.copy ∷ [] = search rules in
    let same : string_bytes c.in-Ok.copy ≡ string_bytes c.text-item.result = search rules in
    one_text c.loop-text.list.items c.push.new.self.items c.args.texts.now c.loop-text.text-index c.in-Ok.copy
    c.text-item.result _ pushed c.loop-text-test.true c.text-item.is same c.loop-text.invariant
