-- The last of what is left of a chain.
use Rattle.std.proofs.Common.{◌≡◌, ℕ, suc, map, String, string_bytes, ◌<◌, ◌≤◌, ◌+◌, ◌-◌, List, [], ◌∷◌, ◌++◌, length}
use Rattle.std.proofs.Common.{take, drop, get_or, Option, Some, None, refl, sym, ap, ◌∙◌, arith, append-nil, subst}
use Rattle.std.specs.List.{last_or}
use Rattle.std.proofs.Math.Seq.{take-append-add}
use Rattle.std.proofs.lemmas.List.{take_more, take-append-le, take_all, drop_more, length-drop, length-append}
use Rattle.std.proofs.lemmas.List.{length-map}
use Rattle.miette_tree.specs.rules.Tree.{Tree, tree, Cause, diagnostic, texts, chain_of, causes_of, cause_of, head}
use Rattle.std.specs.declared.alloc.Global.{Global}
use Rattle.std.specs.Borrow.{Bor}
use Rattle.miette_protocol.specs.views.Meaning.{Meaning}
use Rattle.miette_protocol.specs.rules.Reading.{Source}
use Rattle.miette_tree.specs.rules.Chain.{spine, spine_below, texts_below}
use Rattle.miette_tree.specs.views.Report.{cause_view}
use Rattle.miette_tree.specs.declared.tree.Report.{Report}
use Rattle.miette_tree.specs.declared.tree.Cause as shown
use Rattle.miette_tree.specs.declared.tree.Cause.TheVariants as seen

-- the texts of a chain, after the last of its messages
abbrev mutual
  pub tail : Tree → List (List ℕ)
  tail (tree m s c r) = tail_below c

  pub tail_below : Cause → List (List ℕ)
  tail_below (diagnostic t) = tail t
  tail_below (texts ts) = ts

-- ---- down a chain

spine_parts : (t : Tree) → spine t ≡ (head t).message ∷ spine_below (cause_of t)
spine_parts (tree m s c r) = refl

not_past : (t u : Tree) (k : ℕ) → drop k (spine t) ≡ spine u → k < length (spine t)
not_past t u k e = omega (arith, length-drop k (spine t), ap length (e ∙ spine_parts u))

-- the messages after the first k, from their first on
spine_after : (t u : Tree) (k : ℕ) → drop k (spine t) ≡ spine u → get_or (spine t) k [] ∷ drop (k + 1) (spine t)
    ≡ (head u).message ∷ spine_below (cause_of u)
spine_after t u k e = sym (drop_more (spine t) k [] (not_past t u k e)) ∙ (e ∙ spine_parts u)

-- one report further down, what is left is one message shorter
pub further : (t u n : Tree) (k : ℕ) → drop k (spine t) ≡ spine u → spine n ≡ spine_below (cause_of u)
    → drop (k + 1) (spine t) ≡ spine n
further t u n k e f = ap (drop 1) (spine_after t u k e) ∙ sym f

-- the message of the n-th report is the last of the first n
pub last_of : (t u : Tree) (n : ℕ) → 0 < n → drop (n - 1) (spine t) ≡ spine u → take n (spine t)
    ≡ take (n - 1) (spine t) ++ (head u).message ∷ []
last_of t u n h e =
    let one : n ≡ n - 1 + 1 = omega arith in
    let first : get_or (spine t) (n - 1) [] ≡ (head u).message = ap (λ l. get_or l 0 []) (spine_after t u (n - 1) e) in
    ap (λ k. take k (spine t)) one ∙ (take_more (spine t) (n - 1) [] (not_past t u (n - 1) e)
    ∙ ap (λ y. take (n - 1) (spine t) ++ y ∷ []) first)

-- ---- where a chain ends

pub spine_down : (t : Tree) → length (spine t) ≡ length (spine_below (cause_of t)) + 1
spine_down (tree m s c r) = omega arith

pub tail_down : (t : Tree) → tail t ≡ tail_below (cause_of t)
tail_down (tree m s c r) = refl

mutual
  pub chain_parts : (t : Tree) → chain_of t ≡ spine t ++ tail t
  chain_parts (tree m s c r) = ap (λ l. m.message ∷ l) (cause_parts c)

  cause_parts : (c : Cause) → causes_of c ≡ spine_below c ++ tail_below c
  cause_parts (diagnostic t) = chain_parts t
  cause_parts (texts ts) = refl

-- what is kept of a chain that is longer than can be counted, and of any other
pub cut_chain : (t : Tree) (most : ℕ) → most ≤ length (spine t) → take most (spine t) ++ [] ≡ take most (chain_of t)
cut_chain t most h = append-nil (take most (spine t)) ∙
    (sym (take-append-le most (spine t) (tail t) h) ∙ ap (take most) (sym (chain_parts t)))

pub whole_chain : (t : Tree) (count most : ℕ) (kept : List (List ℕ)) → count ≡ length (spine t) → count ≤ most → kept
    ≡ take (most - count) (tail t) → take count (spine t) ++ kept ≡ take most (chain_of t)
whole_chain t count most kept e h f =
    let all : take count (spine t) ≡ spine t = take_all count (spine t) (omega arith) in
    let split : length (spine t) + (most - count) ≡ most = omega arith in
    ap (λ l. l ++ kept) all ∙ (ap (λ l. spine t ++ l) f ∙
    (sym (take-append-add (spine t) (tail t) (most - count))
    ∙ (ap (λ n. take n (spine t ++ tail t)) split ∙ ap (take most) (sym (chain_parts t)))))

-- a cause that shows no diagnostic
pub no_diagnostic : {D S : Type 0} (means : D → Meaning) (is : S → Source) (r : shown.Cause D S) (c : Cause)
    → cause_view means is r ≡ c → ((x : Bor (Report D S)) → r ≡ seen.Diagnostic x → ⊥)
    → (length (spine_below c) ≡ 0) × (texts_below c ≡ tail_below c)
no_diagnostic means is seen.None c e f = subst (λ k. (length (spine_below k) ≡ 0) × (texts_below k ≡ tail_below k)) e
    (refl, refl)
no_diagnostic means is (seen.Diagnostic x) c e f = absurd (f x refl)
no_diagnostic means is (seen.Texts ts) c e f = subst (λ k. (length (spine_below k) ≡ 0)
    × (texts_below k ≡ tail_below k)) e (refl, refl)

-- ---- what is left of one

-- its first message, before those of the reports below
pub first_left : (t : Tree) (below ts : List (List ℕ)) (n k : ℕ) (m : List ℕ) → n ≡ suc k → below
    ≡ spine_below (cause_of t) → m ≡ (head t).message → take n (spine t) ++ ts ≡ m ∷ (take k below ++ ts)
first_left t below ts n k m one rest first =
    ap (λ i. take i (spine t) ++ ts) one ∙ (ap (λ l. take (suc k) l ++ ts) (spine_parts t)
    ∙ (ap (λ x. x ∷ (take k (spine_below (cause_of t)) ++ ts)) (sym first) ∙ ap (λ l. m ∷ (take k l ++ ts)) (sym rest)))

-- its last message, where no text stands after it
pub last_left : (xs : List (List ℕ)) (ts : List (String Global)) (n k : ℕ) (m : List ℕ) → length ts ≡ 0 → take n xs
    ≡ take k xs ++ m ∷ [] → take n xs ++ map string_bytes ts ≡ (take k xs ++ map string_bytes ts) ++ m ∷ []
last_left xs [] n k m none last = append-nil (take n xs) ∙ (last ∙ ap (λ l. l ++ m ∷ []) (sym (append-nil (take k xs))))
last_left xs (t ∷ ts) n k m none last = absurd (omega arith)

-- how many messages and texts
pub counted_left : (xs : List (List ℕ)) (ts : List (String Global)) (n k : ℕ) → k ≡ length (take n xs) → k + length ts
    ≡ length (take n xs ++ map string_bytes ts)
counted_left xs ts n k count =
    ap (λ i. i + length ts) count ∙ (ap (λ i. length (take n xs) + i) (sym (length-map ts string_bytes))
    ∙ sym (length-append (take n xs) (map string_bytes ts)))

-- one message fewer
pub fewer_after : (xs ys : List (List ℕ)) (m : List ℕ) → xs ≡ m ∷ ys → length ys < length xs
fewer_after xs ys m e = omega (arith, ap length e)

pub fewer_before : (xs ys : List (List ℕ)) (m : List ℕ) → xs ≡ ys ++ m ∷ [] → length ys < length xs
fewer_before xs ys m e = omega (arith, ap length e, length-append ys (m ∷ []))

-- ---- the last of a chain

last_or-append : (before : Option (List ℕ)) (xs : List (List ℕ)) (x : List ℕ) → last_or before (xs ++ x ∷ []) ≡ Some x
last_or-append before [] x = refl
last_or-append before (y ∷ ys) x = last_or-append (Some y) ys x

-- where texts stand after the last report, the last of them is the chain's
pub last_text : (t : Tree) (ts rest : List (List ℕ)) (x : List ℕ) → length (spine_below (cause_of t)) ≡ 0 → ts
    ≡ tail_below (cause_of t) → ts ≡ rest ++ x ∷ [] → last_or None (chain_of t) ≡ Some x
last_text (tree m s (diagnostic n) r) ts rest x none same split = absurd (omega (arith, none, spine_down n))
last_text (tree m s (texts us) r) ts rest x none same split = ap (last_or (Some m.message)) (sym same ∙ split)
    ∙ last_or-append (Some m.message) rest x
