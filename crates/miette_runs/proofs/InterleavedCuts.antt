-- Characters with tags at their places, without the line feeds at an end.
use Rattle.std.proofs.Common.{◌≡◌, ℕ, zero, suc, ◌+◌, ◌-◌, ◌<◌, ◌≤◌, Bool, true, false, ◌&&◌, nat_le, List, []}
use Rattle.std.proofs.Common.{◌∷◌, ◌++◌, map, length, take, drop, get_or, set, refl, sym, subst, ap, ap₂, ◌∙◌}
use Rattle.std.proofs.Common.{if◌then◌else◌, arith, length-drop, length-take}
use Rattle.std.proofs.lemmas.Bool.{and_parts}
use Rattle.std.proofs.lemmas.Bool.Decides.{nat_tests}
use Rattle.std.proofs.Common.{Vec}
use Rattle.std.proofs.lemmas.List.{drop_more, length-map, take_all, with_items_is}
use Rattle.std.proofs.lemmas.List.Elements.{All-map, All-weaker}
use Rattle.std.proofs.Math.Bool.{and_assoc}
use Rattle.std.specs.Vec.{with_items}
use Rattle.miette_runs.specs.rules.Cutting.{cut_end, cut_front, only_feeds}
use Rattle.miette_runs.specs.steps.Feeds.{are_colours, capped_tag, feeds_len, kept_len, lowered_tag}
use Rattle.miette_runs.specs.rules.Sequences.{Token, Character, is_line_feed}
use Rattle.miette_runs.specs.rules.Colours.{is_colour}
use Rattle.miette_runs.specs.views.Interleaving.{AreWithin, beyond, tag_text, tag_token, upto, interleaving}
use Rattle.miette_runs.specs.declared.runs.sign.Tag.{Tag}
use Rattle.miette_runs.proofs.Weaving.{woven-near, upto-beyond}

-- ---- tags at other places

tokens-moved : (f : Tag → Tag) → ((m : Tag) → tag_token (f m) ≡ tag_token m) → (tags : List Tag) → map tag_token tags
    ≡ map tag_token (map f tags)
tokens-moved f kept [] = refl
tokens-moved f kept (m ∷ tags) = ap₂ (λ t us. t ∷ us) (sym (kept m)) (tokens-moved f kept tags)

upto-moved : (f : Tag → Tag) (p q : ℕ) → ((m : Tag) → tag_token (f m) ≡ tag_token m)
    → ((m : Tag) → nat_le (f m).at q ≡ nat_le m.at p) → (tags : List Tag) → map tag_token (upto p tags)
    ≡ map tag_token (upto q (map f tags))
upto-moved f p q kept same [] = refl
upto-moved f p q kept same (m ∷ tags) =
    elim (nat_le m.at p) as (λ v. map tag_token (if v then m ∷ upto p tags else [])
    ≡ map tag_token (if v then f m ∷ upto q (map f tags) else [])) [
      | true ↦ ap₂ (λ t us. t ∷ us) (sym (kept m)) (upto-moved f p q kept same tags)
      | false ↦ refl
    ]
    ∙ ap (λ (v : Bool). map tag_token (if v then f m ∷ upto q (map f tags) else [])) (sym (same m))

beyond-moved : (f : Tag → Tag) (p q : ℕ) → ((m : Tag) → nat_le (f m).at q ≡ nat_le m.at p) → (tags : List Tag)
    → map f (beyond p tags) ≡ beyond q (map f tags)
beyond-moved f p q same [] = refl
beyond-moved f p q same (m ∷ tags) =
    elim (nat_le m.at p) as (λ v. map f (if v then beyond p tags else m ∷ tags)
    ≡ (if v then beyond q (map f tags) else f m ∷ map f tags)) [
      | true ↦ beyond-moved f p q same tags
      | false ↦ refl
    ]
    ∙ ap (λ (v : Bool). if v then beyond q (map f tags) else f m ∷ map f tags) (sym (same m))

-- ---- the same tags before a later place

woven-later : (at n : ℕ) (cs : List ℕ) (tags : List Tag) → at ≤ n → map tag_token (upto at tags)
    ++ interleaving n cs (beyond at tags) ≡ interleaving n cs tags
woven-later at n cs [] h = refl
woven-later at n cs (m ∷ tags) h = elim (nat_le m.at at) as
    (λ v. nat_le m.at at ≡ v → map tag_token (if v then m ∷ upto at tags else [])
    ++ interleaving n cs (if v then beyond at tags else m ∷ tags) ≡ interleaving n cs (m ∷ tags)) [
      | true ↦ λ e. (let near : m.at ≤ at = grind (arith, nat_tests) in
          ap (λ us. tag_token m ∷ us) (woven-later at n cs tags h) ∙ sym (woven-near n cs m tags (omega arith)))
      | false ↦ λ e. refl
    ] refl

-- ---- without the line feeds at the front

front-colours : (tags : List Tag) (ts : List Token) → are_colours tags ≡ true → cut_front (map tag_token tags ++ ts)
    ≡ map tag_token tags ++ cut_front ts
front-colours [] ts h = refl
front-colours (m ∷ tags) ts h =
    let p = and_parts (is_colour (tag_text m)) (are_colours tags) h in
    ap (λ (v : Bool). if v then tag_token m ∷ cut_front (map tag_token tags ++ ts) else tag_token m
    ∷ (map tag_token tags ++ ts)) p.0
    ∙ ap (λ us. tag_token m ∷ us) (front-colours tags ts p.1)

front-others : (tags : List Tag) (ts : List Token) → are_colours tags ≡ false → cut_front (map tag_token tags ++ ts)
    ≡ map tag_token tags ++ ts
front-others [] ts h = absurd (cc)
front-others (m ∷ tags) ts h =
    elim (is_colour (tag_text m)) as (λ v. (v && are_colours tags) ≡ false
    → (if v then tag_token m ∷ cut_front (map tag_token tags ++ ts) else tag_token m ∷ (map tag_token tags ++ ts))
    ≡ tag_token m ∷ (map tag_token tags ++ ts)) [
      | true ↦ λ e. ap (λ us. tag_token m ∷ us) (front-others tags ts e)
      | false ↦ λ e. refl
    ] h

front-only : (tags : List Tag) → cut_front (map tag_token tags) ≡ map tag_token tags
front-only [] = refl
front-only (m ∷ tags) =
    elim (is_colour (tag_text m)) as (λ v. (if v then tag_token m ∷ cut_front (map tag_token tags) else tag_token m
    ∷ map tag_token tags) ≡ tag_token m ∷ map tag_token tags) [
      | true ↦ ap (λ us. tag_token m ∷ us) (front-only tags)
      | false ↦ refl
    ]

front-none : (at c : ℕ) (cs : List ℕ) (tags : List Tag) → (is_line_feed c && are_colours (upto at tags)) ≡ false
    → cut_front (interleaving at (c ∷ cs) tags) ≡ interleaving at (c ∷ cs) tags
front-none at c cs tags h =
    let ts = interleaving (suc at) cs (beyond at tags) in
    elim (are_colours (upto at tags)) as (λ v. are_colours (upto at tags) ≡ v → (is_line_feed c && v) ≡ false
    → cut_front (interleaving at (c ∷ cs) tags) ≡ interleaving at (c ∷ cs) tags) [
      | true ↦ λ e k.
          (let no : is_line_feed c ≡ false = (let d = k in grind (arith, nat_tests)) in
          front-colours (upto at tags) (Character c ∷ ts) e
          ∙ ap (λ (v : Bool). map tag_token (upto at tags) ++ (if v then cut_front ts else Character c ∷ ts)) no)
      | false ↦ λ e k. front-others (upto at tags) (Character c ∷ ts) e
    ] refl h

pub front-woven : (at : ℕ) (cs : List ℕ) (tags : List Tag) → cut_front (interleaving at cs tags)
    ≡ interleaving (at + feeds_len at cs tags) (drop (feeds_len at cs tags) cs) tags
front-woven at [] tags = front-only tags
front-woven at (c ∷ cs) tags =
    let ts = interleaving (suc at) cs (beyond at tags) in
    let k = feeds_len (suc at) cs (beyond at tags) in
    elim (is_line_feed c && are_colours (upto at tags)) as
    (λ v. (is_line_feed c && are_colours (upto at tags)) ≡ v → cut_front (interleaving at (c ∷ cs) tags)
    ≡ interleaving (at + (if v then suc k else 0)) (drop (if v then suc k else 0) (c ∷ cs)) tags) [
      | true ↦ λ e.
          (let p = and_parts (is_line_feed c) (are_colours (upto at tags)) e in
          front-colours (upto at tags) (Character c ∷ ts) p.1
          ∙ ap (λ (v : Bool). map tag_token (upto at tags) ++ (if v then cut_front ts else Character c ∷ ts)) p.0
          ∙ ap (λ us. map tag_token (upto at tags) ++ us) (front-woven (suc at) cs (beyond at tags))
          ∙ woven-later at (suc at + k) (drop k cs) tags (omega arith)
          ∙ ap (λ n. interleaving n (drop k cs) tags) (omega arith))
      | false ↦ λ e. front-none at c cs tags e ∙ ap (λ n. interleaving n (c ∷ cs) tags) (omega arith)
    ] refl

-- ---- tags with fewer characters before them

lowered-place : (n at : ℕ) (m : Tag) → nat_le (lowered_tag n m).at at ≡ nat_le m.at (at + n)
lowered-place n at m = grind (arith, nat_tests)

pub lowered-woven : (n at : ℕ) (cs : List ℕ) (tags : List Tag) → interleaving (at + n) cs tags
    ≡ interleaving at cs (map (lowered_tag n) tags)
lowered-woven n at [] tags = tokens-moved (lowered_tag n) (λ m. refl) tags
lowered-woven n at (c ∷ cs) tags =
    ap (λ k. map tag_token (upto (at + n) tags) ++ Character c ∷ interleaving k cs (beyond (at + n) tags)) (omega arith)
    ∙ ap₂ (λ us vs. us ++ Character c ∷ vs) (upto-moved (lowered_tag n) (at + n) at (λ m. refl) (lowered-place n at)
    tags)
    (lowered-woven n (suc at) cs (beyond (at + n) tags) ∙ ap (interleaving (suc at) cs)
    (beyond-moved (lowered_tag n) (at + n) at (lowered-place n at) tags))

pub lowered-within : (n len : ℕ) (tags : List Tag) → AreWithin len tags → AreWithin (len - n) (map (lowered_tag n) tags)
lowered-within n len tags h =
    All-map (λ (m : Tag). m.at ≤ len - n) (lowered_tag n) tags
    (All-weaker (λ (m : Tag). m.at ≤ len) (λ (m : Tag). m.at - n ≤ len - n) (λ m k. omega arith) tags h)

-- ---- without the line feeds at the end

end-tags : (tags : List Tag) (ts : List Token) → cut_end (map tag_token tags ++ ts) ≡ map tag_token tags ++ cut_end ts
end-tags [] ts = refl
end-tags (m ∷ tags) ts = ap (λ us. tag_token m ∷ us) (end-tags tags ts)

feeds-tags : (tags : List Tag) (ts : List Token) → only_feeds (map tag_token tags ++ ts)
    ≡ (are_colours tags && only_feeds ts)
feeds-tags [] ts = refl
feeds-tags (m ∷ tags) ts = ap (λ v. is_colour (tag_text m) && v) (feeds-tags tags ts)
    ∙ sym (and_assoc (is_colour (tag_text m)) (are_colours tags) (only_feeds ts))

pub feeds-only : (tags : List Tag) → only_feeds (map tag_token tags) ≡ are_colours tags
feeds-only [] = refl
feeds-only (m ∷ tags) = ap (λ v. is_colour (tag_text m) && v) (feeds-only tags)

pub feeds-woven : (at c : ℕ) (cs : List ℕ) (tags : List Tag) → only_feeds (interleaving at (c ∷ cs) tags)
    ≡ (are_colours (upto at tags) && (is_line_feed c && only_feeds (interleaving (suc at) cs (beyond at tags))))
feeds-woven at c cs tags = feeds-tags (upto at tags) (Character c ∷ interleaving (suc at) cs (beyond at tags))

-- of line feeds the tags are left
end-feeds : (at : ℕ) (cs : List ℕ) (tags : List Tag) → only_feeds (interleaving at cs tags) ≡ true
    → cut_end (interleaving at cs tags) ≡ map tag_token tags
end-feeds at [] [] h = refl
end-feeds at [] (m ∷ tags) h = ap (λ us. tag_token m ∷ us)
    (end-feeds at [] tags (and_parts (is_colour (tag_text m)) (only_feeds (map tag_token tags)) h).1)
end-feeds at (c ∷ cs) tags h =
    let ts = interleaving (suc at) cs (beyond at tags) in
    let p = and_parts (are_colours (upto at tags)) (is_line_feed c && only_feeds ts)
    (sym (feeds-woven at c cs tags) ∙ h) in
    let q = and_parts (is_line_feed c) (only_feeds ts) p.1 in
    end-tags (upto at tags) (Character c ∷ ts)
    ∙ ap (λ (v : Bool). map tag_token (upto at tags) ++ (if v then cut_end ts else Character c ∷ cut_end ts)) p.1
    ∙ ap (λ us. map tag_token (upto at tags) ++ us) (end-feeds (suc at) cs (beyond at tags) q.1)
    ∙ upto-beyond at tags

end-only : (tags : List Tag) → cut_end (map tag_token tags) ≡ map tag_token tags
end-only [] = refl
end-only (m ∷ tags) = ap (λ us. tag_token m ∷ us) (end-only tags)

pub end-woven : (at : ℕ) (cs : List ℕ) (tags : List Tag) → cut_end (interleaving at cs tags)
    ≡ interleaving at (take (kept_len at cs tags) cs) tags
end-woven at [] tags = end-only tags
end-woven at (c ∷ cs) tags =
    let ts = interleaving (suc at) cs (beyond at tags) in
    let k = kept_len (suc at) cs (beyond at tags) in
    elim (is_line_feed c && only_feeds ts) as (λ v. (is_line_feed c && only_feeds ts) ≡ v
    → cut_end (interleaving at (c ∷ cs) tags) ≡ interleaving at (take (if v then 0 else suc k) (c ∷ cs)) tags) [
      | true ↦ λ e.
          (let q = and_parts (is_line_feed c) (only_feeds ts) e in
          end-tags (upto at tags) (Character c ∷ ts)
          ∙ ap (λ (v : Bool). map tag_token (upto at tags) ++ (if v then cut_end ts else Character c ∷ cut_end ts)) e
          ∙ ap (λ us. map tag_token (upto at tags) ++ us) (end-feeds (suc at) cs (beyond at tags) q.1)
          ∙ upto-beyond at tags)
      | false ↦ λ e.
          end-tags (upto at tags) (Character c ∷ ts)
          ∙ ap (λ (v : Bool). map tag_token (upto at tags) ++ (if v then cut_end ts else Character c ∷ cut_end ts)) e
          ∙ ap (λ us. map tag_token (upto at tags) ++ Character c ∷ us) (end-woven (suc at) cs (beyond at tags))
    ] refl

-- ---- tags with no more characters before them than there are

capped-place : (n at : ℕ) → at < n → (m : Tag) → nat_le (capped_tag n m).at at ≡ nat_le m.at at
capped-place n at h m = grind (arith, nat_tests)

pub capped-woven : (n at : ℕ) (cs : List ℕ) (tags : List Tag) → at + length cs ≤ n → interleaving at cs tags
    ≡ interleaving at cs (map (capped_tag n) tags)
capped-woven n at [] tags h = tokens-moved (capped_tag n) (λ m. refl) tags
capped-woven n at (c ∷ cs) tags h =
    ap₂ (λ us vs. us ++ Character c ∷ vs) (upto-moved (capped_tag n) at at (λ m. refl) (capped-place n at (omega arith))
    tags)
    (capped-woven n (suc at) cs (beyond at tags) (omega arith)
    ∙ ap (interleaving (suc at) cs) (beyond-moved (capped_tag n) at at (capped-place n at (omega arith)) tags))

pub capped-within : (n : ℕ) (tags : List Tag) → AreWithin n (map (capped_tag n) tags)
capped-within n tags = All-map (λ (m : Tag). m.at ≤ n) (capped_tag n) tags (λ k d l. omega arith)

-- ---- what is kept, counted from the front

-- how much is kept, where so much is before a place and in use
abbrev pub kept_from : ℕ → ℕ → List ℕ → List Tag → ℕ
kept_from kept at [] tags = if are_colours tags then kept else at
kept_from kept at (c ∷ cs) tags = kept_from (if is_line_feed c then (if are_colours (upto at tags) then kept else at)
    else suc at) (suc at) cs (beyond at tags)

-- nothing is kept of line feeds
feeds-kept : (at : ℕ) (cs : List ℕ) (tags : List Tag) → only_feeds (interleaving at cs tags) ≡ true
    → kept_len at cs tags ≡ 0
feeds-kept at [] tags h = refl
feeds-kept at (c ∷ cs) tags h =
    let ts = interleaving (suc at) cs (beyond at tags) in
    let p = and_parts (are_colours (upto at tags)) (is_line_feed c && only_feeds ts)
    (sym (feeds-woven at c cs tags) ∙ h) in
    ap (λ (v : Bool). if v then 0 else suc (kept_len (suc at) cs (beyond at tags))) p.1

abbrev last_kept : ℕ → ℕ → List ℕ → List Tag → ℕ
last_kept kept at cs tags = if only_feeds (interleaving at cs tags) then kept else at + kept_len at cs tags

kept-step : (kept at k : ℕ) (colours feed only : Bool) → (only ≡ true → k ≡ 0) →
    (if only then (if feed then (if colours then kept else at) else suc at) else suc at + k)
    ≡ (if colours && (feed && only) then kept else at + (if feed && only then 0 else suc k))
kept-step kept at k true true true h = refl
kept-step kept at k true true false h = omega arith
kept-step kept at k true false true h = (let e = h refl in omega arith)
kept-step kept at k true false false h = omega arith
kept-step kept at k false true true h = omega arith
kept-step kept at k false true false h = omega arith
kept-step kept at k false false true h = (let e = h refl in omega arith)
kept-step kept at k false false false h = omega arith

kept-last : (kept at : ℕ) (cs : List ℕ) (tags : List Tag) → kept_from kept at cs tags ≡ last_kept kept at cs tags
kept-last kept at [] tags = ap₂ (λ (v : Bool) (n : ℕ). if v then kept else n) (sym (feeds-only tags)) (omega arith)
kept-last kept at (c ∷ cs) tags =
    let ts = interleaving (suc at) cs (beyond at tags) in
    let k = kept_len (suc at) cs (beyond at tags) in
    kept-last (if is_line_feed c then (if are_colours (upto at tags) then kept else at) else suc at) (suc at) cs
    (beyond at tags)
    ∙ kept-step kept at k (are_colours (upto at tags)) (is_line_feed c) (only_feeds ts)
    (feeds-kept (suc at) cs (beyond at tags))
    ∙ ap (λ (v : Bool). if v then kept else at + kept_len at (c ∷ cs) tags) (sym (feeds-woven at c cs tags))

pub kept-all : (cs : List ℕ) (tags : List Tag) → kept_from 0 0 cs tags ≡ kept_len 0 cs tags
kept-all cs tags =
    kept-last 0 0 cs tags
    ∙ elim (only_feeds (interleaving 0 cs tags)) as (λ v. only_feeds (interleaving 0 cs tags) ≡ v
    → (if v then 0 else 0 + kept_len 0 cs tags) ≡ kept_len 0 cs tags) [
      | true ↦ λ e. sym (feeds-kept 0 cs tags e)
      | false ↦ λ e. omega arith
    ] refl

pub kept-next : (kept i k c : ℕ) (cs : List ℕ) (left next : List Tag) → i < length cs → c ≡ get_or cs i c → next
    ≡ beyond i left →
    k ≡ (if is_line_feed c then (if are_colours (upto i left) then kept else i) else i + 1)
    → kept_from k (i + 1) (drop (i + 1) cs) next ≡ kept_from kept i (drop i cs) left
kept-next kept i k c cs left next l is_code is_next is_kept =
    let d : drop i cs ≡ c ∷ drop (i + 1) cs = drop_more cs i c l ∙ ap (λ x. x ∷ drop (i + 1) cs) (sym is_code) in
    let one : (if is_line_feed c then (if are_colours (upto i left) then kept else i) else i + 1)
    ≡ (if is_line_feed c then (if are_colours (upto i left) then kept else i) else suc i) =
    ap (λ n. if is_line_feed c then (if are_colours (upto i left) then kept else i) else n) (omega arith) in
    ap₂ (λ m ms. kept_from m (i + 1) (drop (i + 1) cs) ms) (is_kept ∙ one) is_next
    ∙ ap (λ n. kept_from (if is_line_feed c then (if are_colours (upto i left) then kept else i) else suc i) n
    (drop (i + 1) cs) (beyond i left)) (omega arith)
    ∙ ap (λ xs. kept_from kept i xs left) (sym d)

-- ---- each tag changed in turn

changed : {X : Type 0} (f : X → X) (xs : List X) (i : ℕ) (d y : X) → i < length xs → y
    ≡ f (get_or (map f (take i xs) ++ drop i xs) i d) → set (map f (take i xs) ++ drop i xs) i y
    ≡ map f (take (suc i) xs) ++ drop (suc i) xs
changed f [] i d y l h = absurd (omega arith)
changed f (x ∷ xs) zero d y l h = ap (λ z. z ∷ xs) h
changed f (x ∷ xs) (suc i) d y l h = ap (λ zs. f x ∷ zs) (changed f xs i d y (omega arith) h)

change-next : {X : Type 0} (f : X → X) (xs ys : List X) (i : ℕ) (d y : X) → i < length xs → ys ≡ map f (take i xs)
    ++ drop i xs → y ≡ f (get_or ys i d) → set ys i y ≡ map f (take (i + 1) xs) ++ drop (i + 1) xs
change-next f xs ys i d y l h k =
    let next : suc i ≡ i + 1 = omega arith in
    ap (λ zs. set zs i y) h
    ∙ changed f xs i d y l (k ∙ ap (λ zs. f (get_or zs i d)) h)
    ∙ ap (λ n. map f (take n xs) ++ drop n xs) next

pub tag-changed : (f : Tag → Tag) (xs ys : List Tag) (i n : ℕ) (d : Tag) → i < length xs → ys ≡ map f (take i xs)
    ++ drop i xs → n ≡ (f (get_or ys i d)).at → (f (get_or ys i d)).sign ≡ (get_or ys i d).sign →
    set ys i (record { at = n; sign = (get_or ys i d).sign }) ≡ map f (take (i + 1) xs) ++ drop (i + 1) xs
tag-changed f xs ys i n d l h e s =
    change-next f xs ys i d (record { at = n; sign = (get_or ys i d).sign }) l h
    (ap₂ (λ a b. let m : Tag = record { at = a; sign = b } in m) e (sym s))

-- the tags of runs, written back after each was changed
pub tags-changed : {Z : Type 0} (f : Tag → Tag) (tags : Vec Tag Z) (now low : List Tag) → now ≡ tags.items → length now
    ≡ tags.len → low ≡ map f now → (with_items tags low).items ≡ map f tags.items
tags-changed f tags now low e l h = with_items_is tags low (ap length h ∙ length-map now f ∙ l) ∙ h ∙ ap (map f) e

-- ---- runs, cut

pub front-cut : (codes cut : List ℕ) (tags low : List Tag) (n : ℕ) → n ≡ feeds_len 0 codes tags → cut ≡ drop n codes
    → low ≡ map (lowered_tag n) tags → interleaving 0 cut low ≡ cut_front (interleaving 0 codes tags)
front-cut codes cut tags low n is_len is_cut is_low =
    ap₂ (interleaving 0) is_cut is_low
    ∙ sym (lowered-woven n 0 (drop n codes) tags)
    ∙ ap (λ k. interleaving (0 + k) (drop k codes) tags) is_len
    ∙ sym (front-woven 0 codes tags)

pub front-whole : (codes : List ℕ) (tags : List Tag) (n : ℕ) → n ≡ feeds_len 0 codes tags → n ≡ 0
    → interleaving 0 codes tags ≡ cut_front (interleaving 0 codes tags)
front-whole codes tags n is_len none = ap (λ k. interleaving (0 + k) (drop k codes) tags) (sym none ∙ is_len)
    ∙ sym (front-woven 0 codes tags)

pub front-within : (codes cut : List ℕ) (tags low : List Tag) (n : ℕ) → cut ≡ drop n codes → low
    ≡ map (lowered_tag n) tags → AreWithin (length codes) tags → AreWithin (length cut) low
front-within codes cut tags low n is_cut is_low h =
    let long : length codes - n ≡ length cut = sym (ap length is_cut ∙ length-drop n codes) in
    let P : ℕ → Type 0 = λ k. AreWithin k low in
    let Q : List Tag → Type 0 = λ ms. AreWithin (length codes - n) ms in
    subst P long (subst Q (sym is_low) (lowered-within n (length codes) tags h))

pub end-cut : (codes cut : List ℕ) (tags low : List Tag) (n : ℕ) → n ≡ kept_len 0 codes tags → cut ≡ take n codes → low
    ≡ map (capped_tag n) tags → interleaving 0 cut low ≡ cut_end (interleaving 0 codes tags)
end-cut codes cut tags low n is_len is_cut is_low =
    ap₂ (interleaving 0) is_cut is_low
    ∙ sym (capped-woven n 0 (take n codes) tags (omega (arith, length-take {A = ℕ} n codes)))
    ∙ ap (λ k. interleaving 0 (take k codes) tags) is_len
    ∙ sym (end-woven 0 codes tags)

pub end-whole : (codes : List ℕ) (tags : List Tag) (n : ℕ) → n ≡ kept_len 0 codes tags → length codes ≤ n
    → interleaving 0 codes tags ≡ cut_end (interleaving 0 codes tags)
end-whole codes tags n is_len all =
    ap (λ xs. interleaving 0 xs tags) (sym (take_all n codes all) ∙ ap (λ k. take k codes) is_len)
    ∙ sym (end-woven 0 codes tags)

pub end-within : (codes cut : List ℕ) (tags low : List Tag) (n : ℕ) → n ≤ length codes → cut ≡ take n codes → low
    ≡ map (capped_tag n) tags → AreWithin (length cut) low
end-within codes cut tags low n l is_cut is_low =
    let long : n ≡ length cut = omega (arith, ap length is_cut, length-take {A = ℕ} n codes) in
    let P : ℕ → Type 0 = λ k. AreWithin k low in
    let Q : List Tag → Type 0 = λ ms. AreWithin n ms in
    subst P long (subst Q (sym is_low) (capped-within n tags))
