-- Cutting line feeds at the ends keeps texts tame, and commutes with deleting colours.
use Rattle.std.proofs.Common.{◌≡◌, ℕ, true, false, ◌&&◌, List, [], ◌∷◌, refl, sym, ap, ◌∙◌, arith, eqb-true}
use Rattle.std.proofs.Common.{if◌then◌else◌}
use Rattle.std.proofs.lemmas.Bool.Decides.{nat_tests}
use Rattle.std.proofs.lemmas.Bool.{and_parts}
use Rattle.miette_runs.specs.rules.Sequences.{Token, Character, Sequence, tokens, spell, erase, is_line_feed}
use Rattle.miette_text.specs.laws.Tame.{TameState, Free, Escaped, Opened, Waiting, Untamed, tame_step, tame_after}
use Rattle.miette_text.specs.laws.Tame.{IsTame}
use Rattle.miette_runs.specs.rules.Cutting.{cut_front, only_feeds, cut_end, trim_leading_feeds, trim_trailing_feeds}
use Rattle.miette_text.proofs.ErasedTokens.{erased}
use Rattle.miette_text.proofs.Parsing.{broken_stays, tokens-spell, erase-spell}
use Rattle.miette_text.proofs.Erasing.{tokens-erase}

cut_front-run : (ts : List Token) → tame_after Free ts ≡ Free → tame_after Free (cut_front ts) ≡ Free
cut_front-run [] h = h
cut_front-run (Character c ∷ ts) h = elim (is_line_feed c) as
    (λ b. is_line_feed c ≡ b → tame_after Free (if b then cut_front ts else Character c ∷ ts) ≡ Free) [
      | true ↦ λ e. cut_front-run ts (ap (λ x. tame_after (tame_step Free (Character x)) ts) (sym (eqb-true c 10 e))
          ∙ h)
      | false ↦ λ e. h
    ] refl
cut_front-run (Sequence s ∷ ts) h = grind (arith, nat_tests, broken_stays ts, cut_front-run ts)

cut_front-erased : (ts : List Token) → cut_front (erased ts) ≡ erased (cut_front ts)
cut_front-erased [] = refl
cut_front-erased (Character c ∷ ts) = elim (is_line_feed c) as
    (λ b. (if b then cut_front (erased ts) else Character c ∷ erased ts)
    ≡ erased (if b then cut_front ts else Character c ∷ ts)) [
      | true ↦ cut_front-erased ts
      | false ↦ refl
    ]
cut_front-erased (Sequence s ∷ ts) = grind (arith, nat_tests, cut_front-erased ts)

-- what waits still waits after line feeds and colours
feeds_wait : (ts : List Token) → only_feeds ts ≡ true → tame_after Waiting ts ≡ Waiting
feeds_wait [] h = refl
feeds_wait (Character c ∷ ts) h = grind (arith, nat_tests, feeds_wait ts)
feeds_wait (Sequence s ∷ ts) h = grind (arith, nat_tests, feeds_wait ts)

feed_free : (s : TameState) (ts : List Token) → only_feeds ts ≡ true → tame_after (tame_step s (Character 10)) ts ≡ Free
    → tame_step s (Character 10) ≡ s
feed_free Free ts o h = refl
feed_free Escaped ts o h = cc (feeds_wait ts o, h)
feed_free Opened ts o h = cc (feeds_wait ts o, h)
feed_free Waiting ts o h = refl
feed_free Untamed ts o h = refl

cut_end-run : (s : TameState) (ts : List Token) → tame_after s ts ≡ Free → tame_after s (cut_end ts) ≡ Free
cut_end-run s [] h = h
cut_end-run s (Sequence q ∷ ts) h = cut_end-run (tame_step s (Sequence q)) ts h
cut_end-run s (Character c ∷ ts) h =
    let rest = cut_end-run (tame_step s (Character c)) ts h in
    elim (is_line_feed c && only_feeds ts) as (λ b. (is_line_feed c && only_feeds ts) ≡ b
    → tame_after s (if b then cut_end ts else Character c ∷ cut_end ts) ≡ Free) [
      | true ↦ λ e.
          let p = and_parts (is_line_feed c) (only_feeds ts) e in
          let d : c ≡ 10 = eqb-true c 10 p.0 in
          ap (λ t. tame_after t (cut_end ts)) (sym (ap (λ x. tame_step s (Character x)) d
          ∙ feed_free s ts p.1 (ap (λ x. tame_after (tame_step s (Character x)) ts) (sym d) ∙ h))) ∙ rest
      | false ↦ λ e. rest
    ] refl

only_feeds-erased : (ts : List Token) → only_feeds (erased ts) ≡ only_feeds ts
only_feeds-erased [] = refl
only_feeds-erased (Character c ∷ ts) = ap (λ b. is_line_feed c && b) (only_feeds-erased ts)
only_feeds-erased (Sequence s ∷ ts) = grind (arith, nat_tests, only_feeds-erased ts)

cut_end-erased : (ts : List Token) → cut_end (erased ts) ≡ erased (cut_end ts)
cut_end-erased [] = refl
cut_end-erased (Character c ∷ ts) =
    ap (λ v. if is_line_feed c && v then cut_end (erased ts) else Character c ∷ cut_end (erased ts))
    (only_feeds-erased ts)
    ∙ elim (is_line_feed c && only_feeds ts) as (λ b. (if b then cut_end (erased ts) else Character c
    ∷ cut_end (erased ts)) ≡ erased (if b then cut_end ts else Character c ∷ cut_end ts)) [
      | true ↦ cut_end-erased ts
      | false ↦ ap (λ us. Character c ∷ us) (cut_end-erased ts)
    ]
cut_end-erased (Sequence s ∷ ts) = grind (arith, nat_tests, cut_end-erased ts)

pub leading-tame : (text : List ℕ) → IsTame text → IsTame (trim_leading_feeds text)
leading-tame text h = let k = cut_front-run (tokens text) h in
    ap (tame_after Free) (tokens-spell Free (cut_front (tokens text)) k) ∙ k

pub trailing-tame : (text : List ℕ) → IsTame text → IsTame (trim_trailing_feeds text)
trailing-tame text h = let k = cut_end-run Free (tokens text) h in
    ap (tame_after Free) (tokens-spell Free (cut_end (tokens text)) k) ∙ k

pub leading-erase : (text : List ℕ) → IsTame text → erase (trim_leading_feeds text) ≡ trim_leading_feeds (erase text)
leading-erase text h =
    erase-spell Free (cut_front (tokens text)) (cut_front-run (tokens text) h)
    ∙ ap spell (sym (cut_front-erased (tokens text)))
    ∙ ap (λ ts. spell (cut_front ts)) (sym (tokens-erase text h))

pub trailing-erase : (text : List ℕ) → IsTame text → erase (trim_trailing_feeds text) ≡ trim_trailing_feeds (erase text)
trailing-erase text h =
    erase-spell Free (cut_end (tokens text)) (cut_end-run Free (tokens text) h)
    ∙ ap spell (sym (cut_end-erased (tokens text)))
    ∙ ap (λ ts. spell (cut_end ts)) (sym (tokens-erase text h))
