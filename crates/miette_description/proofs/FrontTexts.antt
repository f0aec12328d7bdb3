-- Texts in front of a report, all at once.
use Rattle.std.proofs.Common.{◌≡◌, ℕ, List, [], ◌∷◌, ◌++◌, map, reverse, refl, sym, ap, ◌∙◌, append_assoc}
use Rattle.std.proofs.lemmas.List.{map-append}
use Rattle.std.proofs.lemmas.Grind.{reverse_onto}
use Rattle.miette_tree.specs.rules.Tree.{Tree, texts, chain_of, cause_of, wrapped_tree, with_cause}
use Rattle.miette_tree.specs.rules.Chain.{texts_below}
use Rattle.miette_description.specs.rules.Description.{wrapped_in}

-- the first text is the last one of the causes in front of the chain
first_last : (m : List ℕ) (ms rest : List (List ℕ)) → reverse ms ++ m ∷ rest ≡ reverse (m ∷ ms) ++ rest
first_last m ms rest = sym (append_assoc (reverse ms) (m ∷ []) rest) ∙ ap (λ l. l ++ rest) (sym (reverse_onto ms m []))

pub at_once : (ms : List (List ℕ)) (last : List ℕ) (t : Tree)
    → wrapped_in (ms ++ last ∷ []) t ≡ with_cause (texts (reverse ms ++ chain_of t)) (wrapped_tree last t)
at_once [] last t = refl
at_once (m ∷ ms) last t =
    at_once ms last (wrapped_tree m t) ∙ ap (λ l. with_cause (texts l) (wrapped_tree last t))
    (first_last m ms (chain_of t))

-- the same by the lists that are made on the way
pub at_once_by : (ms all turned below pushed : List (List ℕ)) (last : List ℕ) (t made : Tree)
    → all ≡ ms ++ last ∷ [] → made ≡ wrapped_tree last t → turned ≡ reverse ms → below ≡ texts_below (cause_of made)
    → pushed ≡ turned ++ below
    → with_cause (texts pushed) made ≡ wrapped_in all t
at_once_by ms all turned below pushed last t made a m r b p =
    let chain : below ≡ chain_of t = b ∙ ap (λ x. texts_below (cause_of x)) m in
    let list : pushed ≡ reverse ms ++ chain_of t = p ∙ ap (λ l. l ++ below) r ∙ ap (λ l. reverse ms ++ l) chain in
    ap (with_cause (texts pushed)) m ∙ ap (λ l. with_cause (texts l) (wrapped_tree last t)) list
    ∙ sym (at_once ms last t)
    ∙ ap (λ l. wrapped_in l t) (sym a)

pub map-reverse : {A B : Type 0} (f : A → B) (xs : List A) → map f (reverse xs) ≡ reverse (map f xs)
map-reverse f [] = refl
map-reverse f (x ∷ xs) =
    ap (map f) (reverse_onto xs x []) ∙ map-append f (reverse xs) (x ∷ []) ∙ ap (λ l. l ++ f x ∷ []) (map-reverse f xs)
    ∙ sym (reverse_onto (map f xs) (f x) [])
