-- Characters with the tags before them, stretch by stretch.
use Rattle.std.proofs.Common.{◌≡◌, true, false, if◌then◌else◌, nat_le, ℕ, zero, suc, ◌+◌, ◌-◌, ◌<◌, ◌≤◌, List, [], ◌∷◌}
use Rattle.std.proofs.Common.{◌++◌, map, length, length-drop, min, take, drop, drop-drop, get_or, refl, sym, ap, ap₂}
use Rattle.std.proofs.Common.{◌∙◌, arith, append_assoc, append-nil, leb-true}
use Rattle.std.proofs.lemmas.Bool.Decides.{nat_tests}
use Rattle.std.proofs.lemmas.List.{drop_more, drop_all, take_all}
use Rattle.std.specs.List.{concat}
use Rattle.miette_runs.specs.steps.Cells.{plain_cell, bare_cells}
use Rattle.miette_runs.specs.rules.Cells.{tags_text, piece_text, TaggedChar}
use Rattle.miette_runs.specs.rules.Sequences.{Token, Character, spell}
use Rattle.miette_runs.specs.views.Interleaving.{tag_text, tag_token, upto, beyond, interleaving, cells_at, left_at}
use Rattle.miette_runs.specs.views.Interleaving.{tags_spelled}
use Rattle.miette_runs.specs.declared.runs.sign.Tag.{Tag}

-- ---- a tag that stands after a place, or not

upto-far : (p : ℕ) (m : Tag) (ms : List Tag) → p < m.at → upto p (m ∷ ms) ≡ []
upto-far p m ms h = grind (arith, nat_tests)

beyond-far : (p : ℕ) (m : Tag) (ms : List Tag) → p < m.at → beyond p (m ∷ ms) ≡ m ∷ ms
beyond-far p m ms h = grind (arith, nat_tests)

upto-near : (p : ℕ) (m : Tag) (ms : List Tag) → m.at ≤ p → upto p (m ∷ ms) ≡ m ∷ upto p ms
upto-near p m ms h = grind (arith, nat_tests)

beyond-near : (p : ℕ) (m : Tag) (ms : List Tag) → m.at ≤ p → beyond p (m ∷ ms) ≡ beyond p ms
beyond-near p m ms h = grind (arith, nat_tests)

-- ---- the characters up to the next tag

pub cells-gap : (k p : ℕ) (cs : List ℕ) (m : Tag) (ms : List Tag) → k ≤ m.at - p → cells_at p cs (m ∷ ms)
    ≡ bare_cells (take k cs) ++ cells_at (p + k) (drop k cs) (m ∷ ms)
cells-gap zero p cs m ms h = ap (λ q. cells_at q cs (m ∷ ms)) (omega arith)
cells-gap (suc k) p [] m ms h = refl
cells-gap (suc k) p (c ∷ cs) m ms h =
    let far : p < m.at = omega arith in
    let next : suc p + k ≡ p + suc k = omega arith in
    ap₂ (λ us vs. record { tags = map tag_text us; code = c } ∷ cells_at (suc p) cs vs) (upto-far p m ms far)
    (beyond-far p m ms far)
    ∙ ap (λ xs. plain_cell c ∷ xs) (cells-gap k (suc p) cs m ms (omega arith)
    ∙ ap (λ q. bare_cells (take k cs) ++ cells_at q (drop k cs) (m ∷ ms)) next)

pub left-gap : (k p : ℕ) (cs : List ℕ) (m : Tag) (ms : List Tag) → k ≤ m.at - p → left_at p cs (m ∷ ms)
    ≡ left_at (p + k) (drop k cs) (m ∷ ms)
left-gap zero p cs m ms h = ap (λ q. left_at q cs (m ∷ ms)) (omega arith)
left-gap (suc k) p [] m ms h = refl
left-gap (suc k) p (c ∷ cs) m ms h =
    let far : p < m.at = omega arith in
    let next : suc p + k ≡ p + suc k = omega arith in
    ap (λ vs. left_at (suc p) cs vs) (beyond-far p m ms far)
    ∙ left-gap k (suc p) cs m ms (omega arith)
    ∙ ap (λ q. left_at q (drop k cs) (m ∷ ms)) next

pub woven-gap : (k p : ℕ) (cs : List ℕ) (m : Tag) (ms : List Tag) → k ≤ m.at - p → interleaving p cs (m ∷ ms)
    ≡ map Character (take k cs) ++ interleaving (p + k) (drop k cs) (m ∷ ms)
woven-gap zero p cs m ms h = ap (λ q. interleaving q cs (m ∷ ms)) (omega arith)
woven-gap (suc k) p [] m ms h = refl
woven-gap (suc k) p (c ∷ cs) m ms h =
    let far : p < m.at = omega arith in
    let next : suc p + k ≡ p + suc k = omega arith in
    ap₂ (λ us vs. map tag_token us ++ Character c ∷ interleaving (suc p) cs vs) (upto-far p m ms far)
    (beyond-far p m ms far)
    ∙ ap (λ xs. Character c ∷ xs) (woven-gap k (suc p) cs m ms (omega arith)
    ∙ ap (λ q. map Character (take k cs) ++ interleaving q (drop k cs) (m ∷ ms)) next)

-- ---- the tag before the next character

text-near : (p : ℕ) (cs : List ℕ) (m : Tag) (ms : List Tag) → m.at ≤ p → 0 < length cs
    → piece_text (cells_at p cs (m ∷ ms)) ≡ tag_text m ++ piece_text (cells_at p cs ms)
text-near p [] m ms h l = absurd (omega arith)
text-near p (c ∷ cs) m ms h l =
    ap₂ (λ us vs. (concat (map tag_text us) ++ c ∷ []) ++ piece_text (cells_at (suc p) cs vs)) (upto-near p m ms h)
    (beyond-near p m ms h)
    ∙ simp append_assoc

left-near : (p : ℕ) (cs : List ℕ) (m : Tag) (ms : List Tag) → m.at ≤ p → 0 < length cs → left_at p cs (m ∷ ms)
    ≡ left_at p cs ms
left-near p [] m ms h l = absurd (omega arith)
left-near p (c ∷ cs) m ms h l = ap (λ vs. left_at (suc p) cs vs) (beyond-near p m ms h)

pub woven-near : (p : ℕ) (cs : List ℕ) (m : Tag) (ms : List Tag) → m.at ≤ p → interleaving p cs (m ∷ ms) ≡ tag_token m
    ∷ interleaving p cs ms
woven-near p [] m ms h = refl
woven-near p (c ∷ cs) m ms h =
    ap₂ (λ us vs. map tag_token us ++ Character c ∷ interleaving (suc p) cs vs) (upto-near p m ms h)
    (beyond-near p m ms h)

-- ---- plain characters

text-plain : (xs : List ℕ) (cs : List TaggedChar) → piece_text (bare_cells xs ++ cs) ≡ xs ++ piece_text cs
text-plain [] cs = refl
text-plain (x ∷ xs) cs = ap (λ us. x ∷ us) (text-plain xs cs)

pub text-none : (p : ℕ) (cs : List ℕ) → piece_text (cells_at p cs []) ≡ cs
text-none p [] = refl
text-none p (c ∷ cs) = ap (λ xs. c ∷ xs) (text-none (suc p) cs)

pub left-none : (p : ℕ) (cs : List ℕ) → left_at p cs [] ≡ []
left-none p [] = refl
left-none p (c ∷ cs) = left-none (suc p) cs

pub woven-none : (p : ℕ) (cs : List ℕ) → interleaving p cs [] ≡ map Character cs
woven-none p [] = refl
woven-none p (c ∷ cs) = ap (λ xs. Character c ∷ xs) (woven-none (suc p) cs)

-- ---- where the next tag is k characters on

drop-some : (k : ℕ) (cs : List ℕ) → k < length cs → 0 < length (drop k cs)
drop-some zero cs h = h
drop-some (suc k) [] h = absurd (omega arith)
drop-some (suc k) (c ∷ cs) h = drop-some k cs (omega arith)

pub text-tag : (p k : ℕ) (cs : List ℕ) (m : Tag) (ms : List Tag) → k ≡ m.at - p → k < length cs
    → piece_text (cells_at p cs (m ∷ ms)) ≡ take k cs ++ (tag_text m ++ piece_text (cells_at (p + k) (drop k cs) ms))
text-tag p k cs m ms e h =
    ap piece_text (cells-gap k p cs m ms (omega arith))
    ∙ text-plain (take k cs) (cells_at (p + k) (drop k cs) (m ∷ ms))
    ∙ ap (λ xs. take k cs ++ xs) (text-near (p + k) (drop k cs) m ms (omega arith) (drop-some k cs h))

pub text-last : (p k : ℕ) (cs : List ℕ) (m : Tag) (ms : List Tag) → k ≡ m.at - p → length cs ≤ k
    → piece_text (cells_at p cs (m ∷ ms)) ≡ cs
text-last p k cs m ms e h =
    ap piece_text (cells-gap k p cs m ms (omega arith))
    ∙ text-plain (take k cs) (cells_at (p + k) (drop k cs) (m ∷ ms))
    ∙ ap₂ (λ us vs. us ++ piece_text (cells_at (p + k) vs (m ∷ ms))) (take_all k cs h) (drop_all k cs h)
    ∙ append-nil cs

pub left-tag : (p k : ℕ) (cs : List ℕ) (m : Tag) (ms : List Tag) → k ≡ m.at - p → k < length cs → left_at p cs (m ∷ ms)
    ≡ left_at (p + k) (drop k cs) ms
left-tag p k cs m ms e h =
    left-gap k p cs m ms (omega arith) ∙ left-near (p + k) (drop k cs) m ms (omega arith) (drop-some k cs h)

pub left-last : (p k : ℕ) (cs : List ℕ) (m : Tag) (ms : List Tag) → k ≡ m.at - p → length cs ≤ k → left_at p cs (m ∷ ms)
    ≡ m ∷ ms
left-last p k cs m ms e h =
    left-gap k p cs m ms (omega arith) ∙ ap (λ vs. left_at (p + k) vs (m ∷ ms)) (drop_all k cs h)

-- the tags from the next one on
pub tags-next : (ms : List Tag) (n : ℕ) (m : Tag) → n < length ms → m ≡ get_or ms n m → drop n ms ≡ m ∷ drop (n + 1) ms
tags-next ms n m h e = drop_more ms n m h ∙ ap (λ x. x ∷ drop (n + 1) ms) (sym e)

-- The tag is printed next where no character stands before it.
woven-here : (p : ℕ) (cs : List ℕ) (m : Tag) (ms : List Tag) → (0 < length cs → m.at ≤ p) → interleaving p cs (m ∷ ms)
    ≡ tag_token m ∷ interleaving p cs ms
woven-here p [] m ms h = refl
woven-here p (c ∷ cs) m ms h = woven-near p (c ∷ cs) m ms (h (omega arith))

pub woven-step : (s n k : ℕ) (cs : List ℕ) (ms : List Tag) (m : Tag) → n < length ms → m ≡ get_or ms n m → k
    ≡ min (m.at - s) (length (drop s cs)) →
    interleaving s (drop s cs) (drop n ms) ≡ map Character (take k (drop s cs)) ++ tag_token m
    ∷ interleaving (s + k) (drop (s + k) cs) (drop (n + 1) ms)
woven-step s n k cs ms m h i e =
    let ds = drop s cs in
    let us = drop (n + 1) ms in
    ap (λ vs. interleaving s ds vs) (tags-next ms n m h i)
    ∙ woven-gap k s ds m us (omega arith)
    ∙ ap (λ ts. map Character (take k ds) ++ ts)
    (woven-here (s + k) (drop k ds) m us (λ l. omega (arith, length-drop k ds))
    ∙ ap (λ xs. tag_token m ∷ interleaving (s + k) xs us) (drop-drop k s cs))

-- ---- what the whole prints

spell-tags-before : (ms : List Tag) (ts : List Token) → spell (map tag_token ms ++ ts) ≡ concat (map tag_text ms)
    ++ spell ts
spell-tags-before [] ts = refl
spell-tags-before (m ∷ ms) ts = ap (λ xs. tag_text m ++ xs) (spell-tags-before ms ts)
    ∙ sym (append_assoc (tag_text m) (concat (map tag_text ms)) (spell ts))

spell-tags-left : (ms : List Tag) → spell (map tag_token ms) ≡ tags_spelled ms
spell-tags-left [] = refl
spell-tags-left (m ∷ ms) = ap (λ xs. tag_text m ++ xs) (spell-tags-left ms)

pub spell-woven : (p : ℕ) (cs : List ℕ) (ms : List Tag) → spell (interleaving p cs ms) ≡ piece_text (cells_at p cs ms)
    ++ tags_spelled (left_at p cs ms)
spell-woven p [] ms = spell-tags-left ms
spell-woven p (c ∷ cs) ms =
    let us = concat (map tag_text (upto p ms)) in
    let next = piece_text (cells_at (suc p) cs (beyond p ms)) in
    let left = tags_spelled (left_at (suc p) cs (beyond p ms)) in
    spell-tags-before (upto p ms) (Character c ∷ interleaving (suc p) cs (beyond p ms))
    ∙ ap (λ xs. us ++ c ∷ xs) (spell-woven (suc p) cs (beyond p ms))
    ∙ sym (append_assoc us (c ∷ []) (next ++ left))
    ∙ sym (append_assoc (us ++ c ∷ []) next left)

-- ---- steps of loops over the tags

pub text-step : (o o1 o2 : List ℕ) (p s n k : ℕ) (cs : List ℕ) (ms : List Tag) (m : Tag) →
    n < length ms → m ≡ get_or ms n m → k ≡ m.at - p → k < length (drop s cs) → o1 ≡ o ++ take k (drop s cs) → o2 ≡ o1
    ++ tag_text m → o2 ++ piece_text (cells_at (p + k) (drop (s + k) cs) (drop (n + 1) ms)) ≡ o
    ++ piece_text (cells_at p (drop s cs) (drop n ms))
text-step o o1 o2 p s n k cs ms m h i e l f g =
    let next = piece_text (cells_at (p + k) (drop (s + k) cs) (drop (n + 1) ms)) in
    ap (λ xs. xs ++ next) (g ∙ ap (λ xs. xs ++ tag_text m) f)
    ∙ append_assoc (o ++ take k (drop s cs)) (tag_text m) next
    ∙ append_assoc o (take k (drop s cs)) (tag_text m ++ next)
    ∙ ap (λ xs. o ++ xs)
    (ap (λ ds. take k (drop s cs) ++ (tag_text m ++ piece_text (cells_at (p + k) ds (drop (n + 1) ms))))
    (sym (drop-drop k s cs))
    ∙ sym (text-tag p k (drop s cs) m (drop (n + 1) ms) e l)
    ∙ ap (λ vs. piece_text (cells_at p (drop s cs) vs)) (sym (tags-next ms n m h i)))

-- where the next tag stands after the last character
pub text-rest : (p s n k : ℕ) (cs : List ℕ) (ms : List Tag) (m : Tag) → n < length ms → m ≡ get_or ms n m → k ≡ m.at - p
    → length (drop s cs) ≤ k → drop s cs ≡ piece_text (cells_at p (drop s cs) (drop n ms))
text-rest p s n k cs ms m h i e l =
    sym (text-last p k (drop s cs) m (drop (n + 1) ms) e l)
    ∙ ap (λ vs. piece_text (cells_at p (drop s cs) vs)) (sym (tags-next ms n m h i))

pub left-rest : (p s n k : ℕ) (cs : List ℕ) (ms : List Tag) (m : Tag) → n < length ms → m ≡ get_or ms n m → k ≡ m.at - p
    → length (drop s cs) ≤ k → drop n ms ≡ left_at p (drop s cs) (drop n ms)
left-rest p s n k cs ms m h i e l =
    let next = tags-next ms n m h i in
    next
    ∙ sym (left-last p k (drop s cs) m (drop (n + 1) ms) e l)
    ∙ ap (λ vs. left_at p (drop s cs) vs) (sym next)

-- without characters
pub text-empty : (cs : List ℕ) (ms : List Tag) (at : ℕ) (o : List ℕ) → length cs ≡ 0 → o ≡ o ++ piece_text
    (cells_at at cs ms)
text-empty [] ms at o e = sym (append-nil o)
text-empty (c ∷ cs) ms at o e = absurd (omega arith)

pub left-empty : (cs : List ℕ) (ms : List Tag) (at : ℕ) → length cs ≡ 0 → ms ≡ left_at at cs ms
left-empty [] ms at e = refl
left-empty (c ∷ cs) ms at e = absurd (omega arith)

pub left-step : (p s n k : ℕ) (cs : List ℕ) (ms : List Tag) (m : Tag) → n < length ms → m ≡ get_or ms n m → k ≡ m.at - p
    → k < length (drop s cs) →
    left_at (p + k) (drop (s + k) cs) (drop (n + 1) ms) ≡ left_at p (drop s cs) (drop n ms)
left-step p s n k cs ms m h i e l =
    ap (λ ds. left_at (p + k) ds (drop (n + 1) ms)) (sym (drop-drop k s cs))
    ∙ sym (left-tag p k (drop s cs) m (drop (n + 1) ms) e l)
    ∙ ap (λ vs. left_at p (drop s cs) vs) (sym (tags-next ms n m h i))

-- ---- the tags up to a later place

upto-later : (p k : ℕ) (ms : List Tag) → p ≤ k → tags_spelled (upto p ms) ++ tags_spelled (upto k (beyond p ms))
    ≡ tags_spelled (upto k ms)
upto-later p k [] h = refl
upto-later p k (m ∷ ms) h = elim (nat_le m.at p) as (λ b. nat_le m.at p ≡ b
    → tags_spelled (if b then m ∷ upto p ms else []) ++ tags_spelled (upto k (if b then beyond p ms else m ∷ ms))
    ≡ tags_spelled (upto k (m ∷ ms))) [
      | true ↦ λ e. append_assoc (tag_text m) (tags_spelled (upto p ms)) (tags_spelled (upto k (beyond p ms)))
          ∙ ap (λ xs. tag_text m ++ xs) (upto-later p k ms h)
          ∙ ap tags_spelled (sym (upto-near k m ms (let l = leb-true m.at p e in omega arith)))
      | false ↦ λ e. refl
    ] refl

beyond-later : (p k : ℕ) (ms : List Tag) → p ≤ k → beyond k (beyond p ms) ≡ beyond k ms
beyond-later p k [] h = refl
beyond-later p k (m ∷ ms) h = elim (nat_le m.at p) as (λ b. nat_le m.at p ≡ b
    → beyond k (if b then beyond p ms else m ∷ ms) ≡ beyond k (m ∷ ms)) [
      | true ↦ λ e. beyond-later p k ms h ∙ sym (beyond-near k m ms (let l = leb-true m.at p e in omega arith))
      | false ↦ λ e. refl
    ] refl

concat-spelled : (ms : List Tag) → concat (map tag_text ms) ≡ tags_spelled ms
concat-spelled [] = refl
concat-spelled (m ∷ ms) = ap (λ xs. tag_text m ++ xs) (concat-spelled ms)

-- the tags of characters are those up to the last of them
pub tags-upto : (p k : ℕ) (cs : List ℕ) (ms : List Tag) → 0 < length cs → k ≡ (p + length cs) - 1
    → tags_text (cells_at p cs ms) ≡ tags_spelled (upto k ms)
tags-upto p k [] ms h e = absurd (omega arith)
tags-upto p k (c ∷ []) ms h e =
    append-nil (concat (map tag_text (upto p ms))) ∙ concat-spelled (upto p ms)
    ∙ ap (λ i. tags_spelled (upto i ms)) (omega arith)
tags-upto p k (c ∷ d ∷ cs) ms h e =
    ap₂ (λ us vs. us ++ vs) (concat-spelled (upto p ms)) (tags-upto (suc p) k (d ∷ cs) (beyond p ms) (omega arith)
    (omega arith))
    ∙ upto-later p k ms (omega arith)

pub left-upto : (p k : ℕ) (cs : List ℕ) (ms : List Tag) → 0 < length cs → k ≡ (p + length cs) - 1
    → left_at p cs ms ≡ beyond k ms
left-upto p k [] ms h e = absurd (omega arith)
left-upto p k (c ∷ []) ms h e = ap (λ i. beyond i ms) (omega arith)
left-upto p k (c ∷ d ∷ cs) ms h e =
    left-upto (suc p) k (d ∷ cs) (beyond p ms) (omega arith) (omega arith) ∙ beyond-later p k ms (omega arith)

pub upto-beyond : (at : ℕ) (tags : List Tag) → map tag_token (upto at tags) ++ map tag_token (beyond at tags)
    ≡ map tag_token tags
upto-beyond at [] = refl
upto-beyond at (m ∷ tags) = elim (nat_le m.at at) as (λ v. map tag_token (if v then m ∷ upto at tags else [])
    ++ map tag_token (if v then beyond at tags else m ∷ tags) ≡ tag_token m ∷ map tag_token tags) [
      | true ↦ ap (λ us. tag_token m ∷ us) (upto-beyond at tags)
      | false ↦ refl
    ]
