-- What is wrapped stays tame.
use Rattle.std.proofs.Common.{◌≡◌, ℕ, Bool, true, false, ◌&&◌, ◌||◌, List, [], ◌∷◌, ◌++◌, map}
use Rattle.std.proofs.Common.{flat_map, refl, sym, ap, ◌∙◌, subst, arith, eqb-true, append_assoc, append-nil}
use Rattle.std.proofs.Common.{if◌then◌else◌, ◌⊎◌, inl, inr}
use Rattle.std.proofs.lemmas.Bool.Decides.{nat_tests}
use Rattle.std.proofs.lemmas.List.Concat.{flat_map-append}
use Rattle.miette_runs.specs.rules.Sequences.{Token, Character, Sequence, is_line_feed}
use Rattle.miette_style.specs.rules.Escapes.{is_escape}
use Rattle.miette_text.specs.laws.Tame.{TameState, Free, Escaped, Opened, Waiting, Untamed, tame_step, tame_after}
use Rattle.miette_text.specs.laws.Tame.{AreTame}
use Rattle.miette_runs.specs.rules.Colours.{is_colour, is_link}
use Rattle.miette_lines.specs.rules.Lists.{is_nil}
use Rattle.miette_text.specs.rules.Wrapping.{TextLine, Word, Cuts, WrapPlan, on_first, with_tag, with_code}
use Rattle.miette_text.specs.rules.Wrapping.{no_characters}
use Rattle.miette_text.specs.rules.Wrapping.{text_lines, cell_tokens, columns, is_space}
use Rattle.miette_text.specs.rules.Wrapping.{first_room, further_room, cuts_of}
use Rattle.miette_text.specs.rules.Wrapping.{cut_words, word_cells, rows_after, rows, only_spaces}
use Rattle.miette_text.specs.rules.Wrapping.{trimmed_row, tokens_of_words, with_rest, text_line_rows, text_rows}
use Rattle.miette_text.specs.rules.Wrapping.{line_feed}
use Rattle.miette_text.specs.rules.Wrapping.{joined_rows, filled_text, all_white, text_line_tokens, indented_row}
use Rattle.miette_text.specs.rules.Wrapping.{last_indented, whole_lines, wrapped_tokens}
use Rattle.miette_text.specs.laws.FilledRows.{all_words}
use Rattle.miette_text.proofs.Parsing.{broken_stays}
use Rattle.miette_text.proofs.RowEnds.{rows-hold}
use Rattle.miette_text.proofs.KeptCells.{flat, onto_some, cut_words-flat}

-- ---- states

abbrev pub alive : TameState → Bool
alive s = elim s [ Untamed ↦ false | _ ↦ true ]

-- where a row may begin
abbrev pub settled : TameState → Bool
settled s = elim s [ Free ↦ true | Waiting ↦ true | _ ↦ false ]

-- s allows at least what t does
abbrev pub freer : TameState → TameState → Bool
freer Free t = true
freer Waiting t = elim t [ Free ↦ false | _ ↦ true ]
freer Escaped t = elim t [ Escaped ↦ true | Untamed ↦ true | _ ↦ false ]
freer Opened t = elim t [ Opened ↦ true | Untamed ↦ true | _ ↦ false ]
freer Untamed t = elim t [ Untamed ↦ true | _ ↦ false ]

freer_self : (s : TameState) → (freer s Untamed ≡ true) × (freer s s ≡ true)
freer_self Free = (refl, refl)
freer_self Escaped = (refl, refl)
freer_self Opened = (refl, refl)
freer_self Waiting = (refl, refl)
freer_self Untamed = (refl, refl)

freer_trans : (s t u : TameState) → freer s t ≡ true → freer t u ≡ true → freer s u ≡ true
freer_trans Free t u h k = refl
freer_trans Waiting Waiting u h k = k
freer_trans Waiting Escaped Escaped h k = refl
freer_trans Waiting Escaped Untamed h k = refl
freer_trans Waiting Escaped _ h k = cc
freer_trans Waiting Opened Opened h k = refl
freer_trans Waiting Opened Untamed h k = refl
freer_trans Waiting Opened _ h k = cc
freer_trans Waiting Untamed Untamed h k = refl
freer_trans Waiting Untamed _ h k = cc
freer_trans Waiting Free u h k = cc
freer_trans Escaped Escaped u h k = k
freer_trans Escaped Untamed Untamed h k = refl
freer_trans Escaped Untamed _ h k = cc
freer_trans Escaped _ u h k = cc
freer_trans Opened Opened u h k = k
freer_trans Opened Untamed Untamed h k = refl
freer_trans Opened Untamed _ h k = cc
freer_trans Opened _ u h k = cc
freer_trans Untamed Untamed u h k = k
freer_trans Untamed _ u h k = cc

freer-tame_step : (s t : TameState) (k : Token) → freer s t ≡ true → freer (tame_step s k) (tame_step t k) ≡ true
freer-tame_step Free Free k h = (freer_self (tame_step Free k)).1
freer-tame_step Free Escaped (Sequence q) h = (freer_self (tame_step Free (Sequence q))).0
freer-tame_step Free Escaped (Character c) h = grind (arith, nat_tests)
freer-tame_step Free Opened (Sequence q) h = (freer_self (tame_step Free (Sequence q))).0
freer-tame_step Free Opened (Character c) h = grind (arith, nat_tests)
freer-tame_step Free Waiting (Sequence q) h = grind (arith, nat_tests)
freer-tame_step Free Waiting (Character c) h = grind (arith, nat_tests)
freer-tame_step Free Untamed (Sequence q) h = (freer_self (tame_step Free (Sequence q))).0
freer-tame_step Free Untamed (Character c) h = (freer_self (tame_step Free (Character c))).0
freer-tame_step Waiting Free k h = cc
freer-tame_step Waiting Waiting k h = (freer_self (tame_step Waiting k)).1
freer-tame_step Waiting Escaped (Sequence q) h = (freer_self (tame_step Waiting (Sequence q))).0
freer-tame_step Waiting Escaped (Character c) h = grind (arith, nat_tests)
freer-tame_step Waiting Opened (Sequence q) h = (freer_self (tame_step Waiting (Sequence q))).0
freer-tame_step Waiting Opened (Character c) h = grind (arith, nat_tests)
freer-tame_step Waiting Untamed (Sequence q) h = (freer_self (tame_step Waiting (Sequence q))).0
freer-tame_step Waiting Untamed (Character c) h = (freer_self (tame_step Waiting (Character c))).0
freer-tame_step Escaped Escaped k h = (freer_self (tame_step Escaped k)).1
freer-tame_step Escaped Untamed (Sequence q) h = refl
freer-tame_step Escaped Untamed (Character c) h = (freer_self (tame_step Escaped (Character c))).0
freer-tame_step Escaped _ k h = cc
freer-tame_step Opened Opened k h = (freer_self (tame_step Opened k)).1
freer-tame_step Opened Untamed (Sequence q) h = refl
freer-tame_step Opened Untamed (Character c) h = (freer_self (tame_step Opened (Character c))).0
freer-tame_step Opened _ k h = cc
freer-tame_step Untamed Untamed k h = (freer_self (tame_step Untamed k)).1
freer-tame_step Untamed _ k h = cc

pub freer-run : (s t : TameState) (ts : List Token) → freer s t ≡ true → freer (tame_after s ts) (tame_after t ts)
    ≡ true
freer-run s t [] h = h
freer-run s t (k ∷ ts) h = freer-run (tame_step s k) (tame_step t k) ts (freer-tame_step s t k h)

free_freer : (s : TameState) → freer s Free ≡ true → s ≡ Free
free_freer Free h = refl
free_freer Escaped h = cc
free_freer Opened h = cc
free_freer Waiting h = cc
free_freer Untamed h = cc

alive_freer : (s t : TameState) → freer s t ≡ true → alive t ≡ true → alive s ≡ true
alive_freer Free t h a = refl
alive_freer Escaped t h a = refl
alive_freer Opened t h a = refl
alive_freer Waiting t h a = refl
alive_freer Untamed Free h a = cc
alive_freer Untamed Escaped h a = cc
alive_freer Untamed Opened h a = cc
alive_freer Untamed Waiting h a = cc
alive_freer Untamed Untamed h a = cc

pub run-append : (s : TameState) (us vs : List Token) → tame_after s (us ++ vs) ≡ tame_after (tame_after s us) vs
run-append s [] vs = refl
run-append s (u ∷ us) vs = run-append (tame_step s u) us vs

alive_before : (s : TameState) (ts : List Token) → alive (tame_after s ts) ≡ true → alive s ≡ true
alive_before Free ts h = refl
alive_before Escaped ts h = refl
alive_before Opened ts h = refl
alive_before Waiting ts h = refl
alive_before Untamed ts h = cc (broken_stays ts)

alive_free : (s : TameState) → s ≡ Free → alive s ≡ true
alive_free s h = ap alive h

-- after a line feed a row may begin
feed_settles : (s : TameState) → alive s ≡ true → settled (tame_step s line_feed) ≡ true
feed_settles Free h = refl
feed_settles Escaped h = refl
feed_settles Opened h = refl
feed_settles Waiting h = refl
feed_settles Untamed h = cc

-- a line feed that is put in leaves what was allowed
feed_freer : (s t : TameState) → freer s t ≡ true → alive t ≡ true → freer (tame_step s line_feed) t ≡ true
feed_freer Free t h a = refl
feed_freer Waiting t h a = h
feed_freer Escaped Escaped h a = refl
feed_freer Escaped Untamed h a = cc
feed_freer Escaped _ h a = cc
feed_freer Opened Opened h a = refl
feed_freer Opened Untamed h a = cc
feed_freer Opened _ h a = cc
feed_freer Untamed Untamed h a = cc
feed_freer Untamed _ h a = cc

-- where a space may stand, it changes nothing
space_stays : (s : TameState) (c : ℕ) → is_space c ≡ true → alive (tame_step s (Character c)) ≡ true
    → tame_step s (Character c) ≡ s
space_stays Free c h a = grind (arith, nat_tests)
space_stays Escaped c h a = grind (arith, nat_tests)
space_stays Opened c h a = grind (arith, nat_tests)
space_stays Waiting c h a = grind (arith, nat_tests)
space_stays Untamed c h a = refl

pub run-trimmed : (s : TameState) (ts : List Token) → alive (tame_after s ts) ≡ true → tame_after s (trimmed_row ts)
    ≡ tame_after s ts
run-trimmed s [] h = refl
run-trimmed s (Sequence q ∷ ts) h = run-trimmed (tame_step s (Sequence q)) ts h
run-trimmed s (Character c ∷ ts) h =
    let rest = run-trimmed (tame_step s (Character c)) ts h in
    elim (is_space c) as (λ b. is_space c ≡ b → tame_after s
    (if b && only_spaces ts then trimmed_row ts else Character c ∷ trimmed_row ts)
    ≡ tame_after (tame_step s (Character c)) ts) [
      | true ↦ λ e. elim (only_spaces ts) as (λ b. tame_after s
          (if b then trimmed_row ts else Character c ∷ trimmed_row ts) ≡ tame_after (tame_step s (Character c)) ts) [
            | true ↦ ap (λ t. tame_after t (trimmed_row ts)) (sym
                (space_stays s c e (alive_before (tame_step s (Character c)) ts h))) ∙ rest
            | false ↦ rest
          ]
      | false ↦ λ e. rest
    ] refl

-- From waiting a text comes to where it comes from free, or it waits still.
waits : (ts : List Token) → (tame_after Waiting ts ≡ tame_after Free ts)
    ⊎ ((tame_after Free ts ≡ Free) × (tame_after Waiting ts ≡ Waiting))
waits [] = inr (refl, refl)
waits (Sequence q ∷ ts) = elim (is_colour q || is_link q) as
    (λ b. (tame_after (if b then Waiting else Untamed) ts ≡ tame_after (if b then Free else Untamed) ts)
    ⊎ ((tame_after (if b then Free else Untamed) ts ≡ Free)
    × (tame_after (if b then Waiting else Untamed) ts ≡ Waiting))) [
      | true ↦ waits ts
      | false ↦ inl refl
    ]
waits (Character c ∷ ts) = elim (is_escape c) as (λ b.
    (tame_after (if b then Escaped else if is_space c || is_line_feed c then Waiting else Free) ts
    ≡ tame_after (if b then Escaped else Free) ts) ⊎ ((tame_after (if b then Escaped else Free) ts ≡ Free)
    × (tame_after (if b then Escaped else if is_space c || is_line_feed c then Waiting else Free) ts ≡ Waiting))) [
      | true ↦ inl refl
      | false ↦ elim (is_space c || is_line_feed c) as (λ b.
          (tame_after (if b then Waiting else Free) ts ≡ tame_after Free ts)
          ⊎ ((tame_after Free ts ≡ Free) × (tame_after (if b then Waiting else Free) ts ≡ Waiting))) [
            | true ↦ waits ts
            | false ↦ inl refl
          ]
    ]

-- An indent leaves what was allowed.
indent_freer : (w : TameState) (indent : List Token) → settled w ≡ true → AreTame indent → freer (tame_after w indent) w
    ≡ true
indent_freer Free indent a h = ap (λ s. freer s Free) h
indent_freer Waiting indent a h = elim (waits indent) [
  | inl e ↦ ap (λ s. freer s Waiting) (e ∙ h)
  | inr e ↦
      ap (λ s. freer s Waiting) e.1
]
indent_freer Escaped indent a h = cc
indent_freer Opened indent a h = cc
indent_freer Untamed indent a h = cc

alive_settled : (w : TameState) → settled w ≡ true → alive w ≡ true
alive_settled Free a = refl
alive_settled Waiting a = refl
alive_settled Escaped a = cc
alive_settled Opened a = cc
alive_settled Untamed a = cc

-- ---- lists of rows

-- A run over rows, cut out of one over the text: after each row it is where it was, or after a line feed. What
-- Q says holds after the last.
abbrev pub Ends : (TameState → Type 0) → TameState → List (List Token) → Type 0
Ends Q s [] = ⊥
Ends Q s (r ∷ rs) = elim rs [
  | [] ↦ Q (tame_after s r)
  | x ∷ xs ↦ (alive (tame_after s r) ≡ true) × ((Ends Q (tame_after s r) rs)
      ⊎ (Ends Q (tame_step (tame_after s r) line_feed) rs))
]

abbrev pub IsFree : TameState → Type 0
IsFree s = s ≡ Free

-- rows after rows, with a line feed between them
Ends-append : (s e : TameState) (rs us : List (List Token)) → alive e ≡ true → Ends (λ t. t ≡ e) s rs
    → Ends IsFree (tame_step e line_feed) us → Ends IsFree s (rs ++ us)
Ends-append s e [] us a h k = absurd h
Ends-append s e (r ∷ []) [] a h k = absurd k
Ends-append s e (r ∷ []) (u ∷ us) a h k = (
  ap alive h ∙ a,
  inr (let P : TameState → Type 0 = λ t. Ends IsFree (tame_step t line_feed) (u ∷ us) in subst P (sym h) k),
)
Ends-append s e (r ∷ q ∷ rs) us a h k = (
  h.0,
  elim h.1 [
    | inl f ↦ inl (Ends-append (tame_after s r) e (q ∷ rs) us a f k)
    | inr f ↦ inr (Ends-append (tame_step (tame_after s r) line_feed) e (q ∷ rs) us a f k)
  ],
)

joined-run : (indent further : List Token) → AreTame indent → AreTame further → (w s : TameState) → settled w ≡ true
    → freer w s ≡ true → (rs : List (List Token)) → Ends IsFree s rs → tame_after w (joined_rows indent further rs)
    ≡ Free
joined-run indent further a b w s c f [] h = absurd h
joined-run indent further a b w s c f (r ∷ []) h =
    run-append w indent r
    ∙ free_freer (tame_after (tame_after w indent) r)
    (let P : TameState → Type 0 = λ t. freer (tame_after (tame_after w indent) r) t ≡ true in
    subst P h (freer-run (tame_after w indent) s r (freer_trans (tame_after w indent) w s
    (indent_freer w indent c a) f)))
joined-run indent further a b w s c f (r ∷ q ∷ rs) h =
    let v = tame_after (tame_after w indent) r in
    let g : freer v (tame_after s r) ≡ true = freer-run (tame_after w indent) s r
    (freer_trans (tame_after w indent) w s (indent_freer w indent c a) f) in
    let d : settled (tame_step v line_feed) ≡ true = feed_settles v (alive_freer v (tame_after s r) g h.0) in
    run-append w (indent ++ r) (line_feed ∷ joined_rows further further (q ∷ rs))
    ∙ ap (λ t. tame_after (tame_step t line_feed) (joined_rows further further (q ∷ rs))) (run-append w indent r)
    ∙ elim h.1 [
      | inl e ↦ joined-run further further b b (tame_step v line_feed) (tame_after s r) d
          (feed_freer v (tame_after s r) g h.0) (q ∷ rs) e
      | inr e ↦ joined-run further further b b (tame_step v line_feed) (tame_step (tame_after s r) line_feed) d
          (freer-tame_step v (tame_after s r) line_feed g) (q ∷ rs) e
    ]

-- ---- pieces

-- A run over pieces, with line feeds between them.
abbrev pub Passes : TameState → List TextLine → Type 0
Passes s [] = ⊥
Passes s (p ∷ ps) = elim ps [
  | [] ↦ tame_after s (text_line_tokens p) ≡ Free
  | q ∷ qs ↦ (alive (tame_after s (text_line_tokens p)) ≡ true)
      × Passes (tame_step (tame_after s (text_line_tokens p)) line_feed) ps
]

piece_tokens-tag : (q : List ℕ) (p : TextLine) → text_line_tokens (with_tag q p) ≡ Sequence q ∷ text_line_tokens p
piece_tokens-tag q p = elim p.cells as (λ cs. text_line_tokens (with_tag q (record { cells = cs; rest = p.rest }))
    ≡ Sequence q ∷ text_line_tokens (record { cells = cs; rest = p.rest })) [
      | [] ↦ refl
      | c ∷ cs ↦ refl
    ]

-- what is put in front of the first piece
Passes-first : (s : TameState) (k : Token) (f : TextLine → TextLine)
    → ((p : TextLine) → text_line_tokens (f p) ≡ k ∷ text_line_tokens p) → (ps : List TextLine)
    → Passes (tame_step s k) ps
    → Passes s (on_first f ps)
Passes-first s k f e [] h = h
Passes-first s k f e (p ∷ []) h = ap (tame_after s) (e p) ∙ h
Passes-first s k f e (p ∷ q ∷ ps) h = (
  ap (λ us. alive (tame_after s us)) (e p) ∙ h.0,
  let P : List Token → Type 0 =
      λ us. Passes (tame_step (tame_after s us) line_feed) (q ∷ ps) in subst P (sym (e p)) h.1,
)

Passes-feed : (s : TameState) (ps : List TextLine) → alive s ≡ true → Passes (tame_step s line_feed) ps
    → Passes s (no_characters ∷ ps)
Passes-feed s [] a h = absurd h
Passes-feed s (p ∷ ps) a h = (a, h)

pub pieces-pass : (s : TameState) (ts : List Token) → tame_after s ts ≡ Free → Passes s (text_lines ts)
pieces-pass s [] h = h
pieces-pass s (Sequence q ∷ ts) h = Passes-first s (Sequence q) (with_tag q) (piece_tokens-tag q) (text_lines ts)
    (pieces-pass (tame_step s (Sequence q)) ts h)
pieces-pass s (Character c ∷ ts) h =
    elim (is_line_feed c) as (λ b. is_line_feed c ≡ b → Passes s
    (if b then no_characters ∷ text_lines ts else on_first (with_code c) (text_lines ts))) [
      | true ↦ λ e.
          let a : alive s ≡ true = alive_before s (Character c ∷ ts) (alive_free (tame_after s (Character c ∷ ts)) h)
          in
          let P : ℕ → Type 0 = λ x. Passes (tame_step s (Character x)) (text_lines ts) in
          Passes-feed s (text_lines ts) a (subst P (eqb-true c 10 e) (pieces-pass (tame_step s (Character c)) ts h))
      | false ↦ λ e. Passes-first s (Character c) (with_code c) (λ p. refl) (text_lines ts)
          (pieces-pass (tame_step s (Character c)) ts h)
    ] refl

pub rows_some : (room further : ℕ) (ws : List Word) → is_nil (rows room further ws) ≡ false
rows_some room further [] = refl
rows_some room further (w ∷ ws) = onto_some w (rows_after (columns (word_cells w)) room further ws)

-- what a row's words are before the last spaces are dropped
abbrev pub raw : List Word → List Token
raw ws = flat_map cell_tokens (flat_map word_cells ws)

pub raw-append : (us vs : List Word) → raw (us ++ vs) ≡ raw us ++ raw vs
raw-append us vs = ap (flat_map cell_tokens) (flat_map-append word_cells us vs)
    ∙ flat_map-append cell_tokens (flat_map word_cells us) (flat_map word_cells vs)

alive-append : (s : TameState) (us vs : List Token) → alive (tame_after s (us ++ vs)) ≡ true → alive (tame_after s us)
    ≡ true
alive-append s us vs h = alive_before (tame_after s us) vs (sym (ap alive (run-append s us vs)) ∙ h)

-- Rows cut from a run.
rows-ends : (s e : TameState) (rest : List (List ℕ)) (rs : List (List Word)) → is_nil rs ≡ false → alive e ≡ true →
    tame_after s (raw (flat rs) ++ map Sequence rest) ≡ e → Ends (λ t. t ≡ e) s (with_rest rest
    (map tokens_of_words rs))
rows-ends s e rest [] n a h = cc
rows-ends s e rest (r ∷ []) n a h =
    let g : tame_after s (raw r ++ map Sequence rest) ≡ e =
    ap (λ ws. tame_after s (raw ws ++ map Sequence rest)) (sym (append-nil r)) ∙ h in
    let b : alive (tame_after s (raw r)) ≡ true = alive-append s (raw r) (map Sequence rest) (ap alive g ∙ a) in
    run-append s (trimmed_row (raw r)) (map Sequence rest)
    ∙ ap (λ t. tame_after t (map Sequence rest)) (run-trimmed s (raw r) b)
    ∙ sym (run-append s (raw r) (map Sequence rest))
    ∙ g
rows-ends s e rest (r ∷ q ∷ rs) n a h =
    let split : raw (r ++ flat (q ∷ rs)) ++ map Sequence rest ≡ raw r ++ (raw (flat (q ∷ rs)) ++ map Sequence rest) =
    ap (λ ts. ts ++ map Sequence rest) (raw-append r (flat (q ∷ rs)))
    ∙ append_assoc (raw r) (raw (flat (q ∷ rs))) (map Sequence rest) in
    let g : tame_after (tame_after s (raw r)) (raw (flat (q ∷ rs)) ++ map Sequence rest) ≡ e =
    sym (run-append s (raw r) (raw (flat (q ∷ rs)) ++ map Sequence rest)) ∙ ap (tame_after s) (sym split) ∙ h in
    let b : alive (tame_after s (raw r)) ≡ true = alive_before (tame_after s (raw r))
    (raw (flat (q ∷ rs)) ++ map Sequence rest) (ap alive g ∙ a) in
    let t : tame_after s (trimmed_row (raw r)) ≡ tame_after s (raw r) = run-trimmed s (raw r) b in
    let f = rows-ends (tame_after s (raw r)) e rest (q ∷ rs) refl a g in
    elim rs as (λ xs. Ends (λ t. t ≡ e) (tame_after s (raw r)) (with_rest rest (map tokens_of_words (q ∷ xs)))
    → Ends (λ t. t ≡ e) s (with_rest rest (map tokens_of_words (r ∷ q ∷ xs)))) [
      | [] ↦ λ f. (
        ap alive t ∙ b,
        inl (let P : TameState → Type 0 =
            λ u. Ends (λ t. t ≡ e) u (with_rest rest (map tokens_of_words (q ∷ []))) in subst P (sym t) f),
      )
      | x ∷ xs ↦ λ f. (
        ap alive t ∙ b,
        inl (let P : TameState → Type 0 =
            λ u. Ends (λ t. t ≡ e) u (with_rest rest (map tokens_of_words (q ∷ x ∷ xs))) in subst P (sym t) f),
      )
    ] f

flat-words : (rs : List (List Word)) → flat rs ≡ all_words rs
flat-words [] = refl
flat-words (r ∷ rs) = ap (λ ws. r ++ ws) (flat-words rs)

cells-raw : (cuts : Cuts) (room further : ℕ) (p : TextLine) → raw (flat (rows room further (cut_words cuts p.cells)))
    ++ map Sequence p.rest ≡ text_line_tokens p
cells-raw cuts room further p =
    ap (λ ws. raw ws ++ map Sequence p.rest) (flat-words (rows room further (cut_words cuts p.cells))
    ∙ rows-hold room further (cut_words cuts p.cells))
    ∙ ap (λ cs. flat_map cell_tokens cs ++ map Sequence p.rest) (cut_words-flat cuts p.cells)

piece_rows-ends : (cuts : Cuts) (room further : ℕ) (s : TameState) (p : TextLine)
    → alive (tame_after s (text_line_tokens p)) ≡ true → Ends (λ t. t ≡ tame_after s (text_line_tokens p)) s
    (text_line_rows cuts room further p)
piece_rows-ends cuts room further s p a = rows-ends s (tame_after s (text_line_tokens p)) p.rest
    (rows room further (cut_words cuts p.cells)) (rows_some room further (cut_words cuts p.cells)) a
    (ap (tame_after s) (cells-raw cuts room further p))

-- the rows of a piece, and of those below it
text_rows-ends : (cuts : Cuts) (room further : ℕ) (s : TameState) (ps : List TextLine) → Passes s ps
    → Ends IsFree s (text_rows cuts room further ps)
text_rows-ends cuts room further s [] h = absurd h
text_rows-ends cuts room further s (p ∷ []) h =
    let P : List (List Token) → Type 0 = Ends IsFree s in
    let Q : TameState → Type 0 = λ e. Ends (λ t. t ≡ e) s (text_line_rows cuts room further p) in
    subst P (sym (append-nil (text_line_rows cuts room further p)))
    (subst Q h (piece_rows-ends cuts room further s p (alive_free (tame_after s (text_line_tokens p)) h)))
text_rows-ends cuts room further s (p ∷ q ∷ ps) h =
    Ends-append s (tame_after s (text_line_tokens p)) (text_line_rows cuts room further p)
    (text_line_rows cuts further further q ++ text_rows cuts further further ps) h.0
    (piece_rows-ends cuts room further s p h.0)
    (text_rows-ends cuts further further (tame_step (tame_after s (text_line_tokens p)) line_feed) (q ∷ ps) h.1)

filled-tame : (p : WrapPlan (List Token)) (ts : List Token) → AreTame p.first → AreTame p.further → AreTame ts
    → AreTame (filled_text p ts)
filled-tame p ts a b h = joined-run p.first p.further a b Free Free refl refl
    (text_rows (cuts_of p) (first_room p) (further_room p) (text_lines ts))
    (text_rows-ends (cuts_of p) (first_room p) (further_room p) Free (text_lines ts) (pieces-pass Free ts h))

-- ---- without wrapping

if-trimmed : (w : TameState) (b : Bool) (indent : List Token) → settled w ≡ true → AreTame indent
    → freer (tame_after w (if b then trimmed_row indent else indent)) w ≡ true
if-trimmed w true indent c h =
    let f = indent_freer w indent c h in
    ap (λ s. freer s w) (run-trimmed w indent (alive_freer (tame_after w indent) w f (alive_settled w c))) ∙ f
if-trimmed w false indent c h = indent_freer w indent c h

indented-freer : (w s : TameState) (indent : List Token) (p : TextLine) → settled w ≡ true → freer w s ≡ true
    → AreTame indent → freer (tame_after w (indented_row indent p)) (tame_after s (text_line_tokens p)) ≡ true
indented-freer w s indent p c f h =
    let i = if all_white p.cells then trimmed_row indent else indent in
    ap (λ t. freer t (tame_after s (text_line_tokens p))) (run-append w i (text_line_tokens p))
    ∙ freer-run (tame_after w i) s (text_line_tokens p)
    (freer_trans (tame_after w i) w s (if-trimmed w (all_white p.cells) indent c h) f)

last-freer : (w s : TameState) (indent : List Token) (p : TextLine) → settled w ≡ true → freer w s ≡ true
    → AreTame indent
    → freer (tame_after w (last_indented indent p)) (tame_after s (text_line_tokens p)) ≡ true
last-freer w s indent p c f h = elim p.cells as (λ cs. freer
    (tame_after w (last_indented indent (record { cells = cs; rest = p.rest })))
    (tame_after s (text_line_tokens (record { cells = cs; rest = p.rest }))) ≡ true) [
      | [] ↦ freer-run w s (map Sequence p.rest) f
      | x ∷ cs ↦ indented-freer w s indent (record { cells = x ∷ cs; rest = p.rest }) c f h
    ]

whole-run : (indent further : List Token) → AreTame indent → AreTame further → (w s : TameState) → settled w ≡ true
    → freer w s ≡ true → (ps : List TextLine) → Passes s ps → tame_after w (whole_lines indent further ps) ≡ Free
whole-run indent further a b w s c f [] h = absurd h
whole-run indent further a b w s c f (p ∷ []) h =
    free_freer (tame_after w (last_indented indent p)) (let P : TameState → Type 0 =
    λ t. freer (tame_after w (last_indented indent p)) t ≡ true in subst P h (last-freer w s indent p c f a))
whole-run indent further a b w s c f (p ∷ q ∷ ps) h =
    let v = tame_after w (indented_row indent p) in
    let g : freer v (tame_after s (text_line_tokens p)) ≡ true = indented-freer w s indent p c f a in
    run-append w (indented_row indent p) (line_feed ∷ whole_lines further further (q ∷ ps))
    ∙ whole-run further further b b (tame_step v line_feed) (tame_step (tame_after s (text_line_tokens p)) line_feed)
    (feed_settles v (alive_freer v (tame_after s (text_line_tokens p)) g h.0))
    (freer-tame_step v (tame_after s (text_line_tokens p)) line_feed g) (q ∷ ps) h.1

whole-tame : (p : WrapPlan (List Token)) (ts : List Token) → AreTame p.first → AreTame p.further → AreTame ts
    → AreTame (whole_lines p.first p.further (text_lines ts))
whole-tame p ts a b h = whole-run p.first p.further a b Free Free refl refl (text_lines ts) (pieces-pass Free ts h)

pub wrapped_tokens-tame : (p : WrapPlan (List Token)) (ts : List Token) → AreTame p.first → AreTame p.further
    → AreTame ts
    → AreTame (wrapped_tokens p ts)
wrapped_tokens-tame p ts a b h = elim p.wrap_lines as (λ w. AreTame
    (if w then filled_text p ts else whole_lines p.first p.further (text_lines ts))) [
      | true ↦ filled-tame p ts a b h
      | false ↦ whole-tame p ts a b h
    ]
