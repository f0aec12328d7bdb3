-- What is shown of a text whose braces were doubled: that text without its links.
use Rattle.std.proofs.Common.{◌≡◌, ℕ, zero, suc, ◌+◌, ◌<◌, ◌≤◌, List, [], ◌∷◌, ◌++◌, Bool, true, false, not, ◌&&◌, refl}
use Rattle.std.proofs.Common.{ap, sym, subst, ◌∙◌, arith, drop, length, cond, nat_lt, ◌==◌, slice_index}
use Rattle.std.proofs.Common.{true≢false, inl, inr, add-one, one-add, length-drop, lt-ltb}
use Rattle.std.specs.Prelude.{if◌then◌else◌}
use Rattle.std.proofs.lemmas.Bool.{and_parts, eqb-true, or_cases}
use Rattle.std.proofs.lemmas.List.{drop-drop}
use Rattle.miette_sarif.specs.rules.Messages.{doubled, is_brace}
use Rattle.miette_read_sarif.specs.rules.Messages.{MessagePiece, backslash_piece, bracket_at, closing_piece}
use Rattle.miette_read_sarif.specs.rules.Messages.{destination_count}
use Rattle.miette_read_sarif.specs.rules.Messages.{ends_destination, escaped, has_destination, is_bracket}
use Rattle.miette_read_sarif.specs.rules.Messages.{is_escapable}
use Rattle.miette_read_sarif.specs.rules.Messages.{is_link, opening_piece, piece_of, plain, message_shown, shown_after}
use Rattle.std.specs.List.{position_or_len}
use Rattle.miette_read_laws.specs.laws.Links.{link_piece, unlinked_after, without_links}

-- ---- doubled bytes

-- what holds of `{` and of `}`
brace_by : (P : ℕ → Type 0) → P 123 → P 125 → (z : ℕ) → is_brace z ≡ true → P z
brace_by P left right z e =
    elim (or_cases (z == 123) (z == 125) e) [
      | inl h ↦ subst P (sym (eqb-true z 123 h)) left
      | inr h ↦ subst P (sym (eqb-true z 125 h)) right
    ]

one_double : (z : ℕ) (zs : List ℕ) → is_brace z ≡ false → doubled (z ∷ zs) ≡ z ∷ doubled zs
one_double z zs e = ap (λ b. (if b then z ∷ z ∷ [] else z ∷ []) ++ doubled zs) e

begins_by : (b : Bool) (z : ℕ) (zs : List ℕ) → slice_index ((if b then z ∷ z ∷ [] else z ∷ []) ++ zs) 0 ≡ z
begins_by true z zs = refl
begins_by false z zs = refl

begins : (zs : List ℕ) → slice_index (doubled zs) 0 ≡ slice_index zs 0
begins [] = refl
begins (z ∷ zs) = begins_by (is_brace z) z (doubled zs)

drop_one : (zs : List ℕ) → is_brace (slice_index zs 0) ≡ false → drop 1 (doubled zs) ≡ doubled (drop 1 zs)
drop_one [] e = refl
drop_one (z ∷ zs) e = ap (drop 1) (one_double z zs e)

at_drop : (n : ℕ) (zs : List ℕ) → slice_index (drop n zs) 0 ≡ slice_index zs n
at_drop zero zs = refl
at_drop (suc n) [] = refl
at_drop (suc n) (z ∷ zs) = at_drop n zs

same_at : (m n : ℕ) (zs : List ℕ) → drop m (doubled zs) ≡ doubled (drop n zs)
    → slice_index (doubled zs) m ≡ slice_index zs n
same_at m n zs e =
    sym (at_drop m (doubled zs)) ∙ (ap (λ us. slice_index us 0) e ∙ (begins (drop n zs) ∙ at_drop n zs))

-- ---- destinations

abbrev passes : ℕ → Bool
passes z = not (ends_destination z)

-- how many bytes stand before what ends a destination
abbrev count : List ℕ → ℕ
count zs = position_or_len ends_destination zs

drop_over : (n z : ℕ) (zs : List ℕ) → drop (1 + n) (z ∷ zs) ≡ drop n zs
drop_over n z zs = ap (λ k. drop k (z ∷ zs)) (one-add n)

-- what is counted over is the same part of a text and of its double
abbrev SameEnd : List ℕ → List ℕ → Type 0
SameEnd us zs = drop (count us) us ≡ doubled (drop (count zs) zs)

end_plain : (z : ℕ) (zs : List ℕ) → is_brace z ≡ false → SameEnd (doubled zs) zs → (p : Bool)
    → drop (cond p (1 + count (doubled zs)) 0) (z ∷ doubled zs) ≡ doubled (drop (cond p (1 + count zs) 0) (z ∷ zs))
end_plain z zs e h true =
    drop_over (count (doubled zs)) z (doubled zs) ∙ (h ∙ sym (ap doubled (drop_over (count zs) z zs)))
end_plain z zs e h false = sym (one_double z zs e)

end_brace : (z : ℕ) (zs : List ℕ) → SameEnd (doubled zs) zs
    → drop (1 + (1 + count (doubled zs))) (z ∷ z ∷ doubled zs) ≡ doubled (drop (1 + count zs) (z ∷ zs))
end_brace z zs h =
    drop_over (1 + count (doubled zs)) z (z ∷ doubled zs)
    ∙ (drop_over (count (doubled zs)) z (doubled zs) ∙ (h ∙ sym (ap doubled (drop_over (count zs) z zs))))

end_by : (z : ℕ) (zs : List ℕ) (b : Bool) → is_brace z ≡ b → SameEnd (doubled zs) zs
    → SameEnd (doubled (z ∷ zs)) (z ∷ zs)
end_by z zs true e h =
    brace_by (λ x. SameEnd (doubled (x ∷ zs)) (x ∷ zs)) (end_brace 123 zs h) (end_brace 125 zs h) z e
end_by z zs false e h =
    subst (λ us. SameEnd us (z ∷ zs)) (sym (one_double z zs e)) (end_plain z zs e h (passes z))

same_end : (zs : List ℕ) → SameEnd (doubled zs) zs
same_end [] = refl
same_end (z ∷ zs) = end_by z zs (is_brace z) refl (same_end zs)

some_more : (m n : ℕ) (p : Bool) → nat_lt 0 (cond p (1 + m) 0) ≡ nat_lt 0 (cond p (1 + n) 0)
some_more m n true =
    let more : 0 < 1 + m = omega arith in
    let other : 0 < 1 + n = omega arith in
    lt-ltb 0 (1 + m) more ∙ sym (lt-ltb 0 (1 + n) other)
some_more m n false = refl

abbrev SameSome : List ℕ → List ℕ → Type 0
SameSome us zs = nat_lt 0 (count us) ≡ nat_lt 0 (count zs)

some_by : (z : ℕ) (zs : List ℕ) (b : Bool) → is_brace z ≡ b → SameSome (doubled (z ∷ zs)) (z ∷ zs)
some_by z zs true e =
    brace_by (λ x. SameSome (doubled (x ∷ zs)) (x ∷ zs)) (some_more (1 + count (doubled zs)) (count zs) true)
    (some_more (1 + count (doubled zs)) (count zs) true) z e
some_by z zs false e =
    subst (λ us. SameSome us (z ∷ zs)) (sym (one_double z zs e)) (some_more (count (doubled zs)) (count zs) (passes z))

same_some : (zs : List ℕ) → SameSome (doubled zs) zs
same_some [] = refl
same_some (z ∷ zs) = some_by z zs (is_brace z) refl

over_one : (z n : ℕ) (zs : List ℕ) → slice_index (z ∷ zs) (n + 1) ≡ slice_index zs n
over_one z n zs = ap (slice_index (z ∷ zs)) (add-one n)

last_same : (z : ℕ) (zs : List ℕ)
    → slice_index (z ∷ doubled zs) (count (doubled zs) + 1) ≡ slice_index (z ∷ zs) (count zs + 1)
last_same z zs =
    over_one z (count (doubled zs)) (doubled zs)
    ∙ (same_at (count (doubled zs)) (count zs) zs (same_end zs) ∙ sym (over_one z (count zs) zs))

abbrev SameDestination : List ℕ → List ℕ → Type 0
SameDestination us zs = has_destination us ≡ has_destination zs

destination_by : (z : ℕ) (zs : List ℕ) (b : Bool) → is_brace z ≡ b → SameDestination (doubled (z ∷ zs)) (z ∷ zs)
destination_by z zs true e = brace_by (λ x. SameDestination (doubled (x ∷ zs)) (x ∷ zs)) refl refl z e
destination_by z zs false e =
    subst (λ us. SameDestination us (z ∷ zs)) (sym (one_double z zs e))
    (ap (λ b. (z == 40) && (b && (slice_index (z ∷ doubled zs) (count (doubled zs) + 1) == 41))) (same_some zs)
    ∙ ap (λ x. (z == 40) && (nat_lt 0 (count zs) && (x == 41))) (last_same z zs))

same_destination : (zs : List ℕ) → SameDestination (doubled zs) zs
same_destination [] = refl
same_destination (z ∷ zs) = destination_by z zs (is_brace z) refl

-- ---- what stands after a destination

after_end : (zs : List ℕ) → slice_index zs (count zs) ≡ 41
    → drop (count (doubled zs) + 1) (doubled zs) ≡ doubled (drop (count zs + 1) zs)
after_end zs e =
    let ends : is_brace (slice_index (drop (count zs) zs) 0) ≡ false = ap is_brace (at_drop (count zs) zs ∙ e) in
    sym (drop-drop 1 (count (doubled zs)) (doubled zs))
    ∙ (ap (drop 1) (same_end zs)
    ∙ (drop_one (drop (count zs) zs) ends ∙ ap doubled (drop-drop 1 (count zs) zs)))

drop_two : (n z : ℕ) (zs : List ℕ) → drop (n + 2) (z ∷ zs) ≡ drop (n + 1) zs
drop_two n z zs =
    let two : n + 2 ≡ suc (n + 1) = omega arith in ap (λ k. drop k (z ∷ zs)) two

abbrev SameAfter : List ℕ → List ℕ → Type 0
SameAfter us zs = drop (destination_count us + 2) us ≡ doubled (drop (destination_count zs + 2) zs)

opened_after : (zs : List ℕ) → slice_index zs (count zs) ≡ 41 → SameAfter (40 ∷ doubled zs) (40 ∷ zs)
opened_after zs e =
    drop_two (count (doubled zs)) 40 (doubled zs)
    ∙ (after_end zs e ∙ sym (ap doubled (drop_two (count zs) 40 zs)))

first_after : (z : ℕ) (zs : List ℕ) → z ≡ 40 → slice_index zs (count zs) ≡ 41
    → SameAfter (doubled (z ∷ zs)) (z ∷ zs)
first_after z zs is e = subst (λ x. SameAfter (doubled (x ∷ zs)) (x ∷ zs)) (sym is) (opened_after zs e)

same_after : (zs : List ℕ) → has_destination zs ≡ true → SameAfter (doubled zs) zs
same_after [] e = absurd (true≢false (sym e))
same_after (z ∷ zs) e =
    let ends : Bool = slice_index (z ∷ zs) (count zs + 1) == 41 in
    let parts = and_parts (z == 40) (nat_lt 0 (count zs) && ends) e in
    let last = and_parts (nat_lt 0 (count zs)) ends parts.1 in
    first_after z zs (eqb-true z 40 parts.0)
    (sym (over_one z (count zs) zs) ∙ eqb-true (slice_index (z ∷ zs) (count zs + 1)) 41 last.1)

-- ---- links

abbrev SameBracket : Bool → List ℕ → List ℕ → Type 0
SameBracket e us zs = drop (bracket_at e us) us ≡ doubled (drop (bracket_at e zs) zs)

bracket_stop : (z : ℕ) (zs : List ℕ) (next : Bool) → is_brace z ≡ false → SameBracket next (doubled zs) zs
    → (stop : Bool) → drop (if stop then 0 else suc (bracket_at next (doubled zs))) (z ∷ doubled zs)
    ≡ doubled (drop (if stop then 0 else suc (bracket_at next zs)) (z ∷ zs))
bracket_stop z zs next e h true = sym (one_double z zs e)
bracket_stop z zs next e h false = h

bracket_by : (z : ℕ) (zs : List ℕ) (s b : Bool) → is_brace z ≡ b → ((next : Bool) → SameBracket next (doubled zs) zs)
    → SameBracket s (doubled (z ∷ zs)) (z ∷ zs)
bracket_by z zs s true e h =
    brace_by (λ x. SameBracket s (doubled (x ∷ zs)) (x ∷ zs)) (h false) (h false) z e
bracket_by z zs s false e h =
    subst (λ us. SameBracket s us (z ∷ zs)) (sym (one_double z zs e))
    (bracket_stop z zs ((z == 92) && not s) e (h ((z == 92) && not s)) (is_bracket z && not s))

same_bracket : (zs : List ℕ) (s : Bool) → SameBracket s (doubled zs) zs
same_bracket [] s = refl
same_bracket (z ∷ zs) s = bracket_by z zs s (is_brace z) refl (same_bracket zs)

-- a link's text ends here, where its destination stands next
abbrev is_end : List ℕ → Bool
is_end zs = (slice_index zs 0 == 93) && has_destination (drop 1 zs)

abbrev SameIsEnd : List ℕ → List ℕ → Type 0
SameIsEnd us zs = is_end us ≡ is_end zs

is_end_by : (z : ℕ) (zs : List ℕ) (b : Bool) → is_brace z ≡ b → SameIsEnd (doubled (z ∷ zs)) (z ∷ zs)
is_end_by z zs true e = brace_by (λ x. SameIsEnd (doubled (x ∷ zs)) (x ∷ zs)) refl refl z e
is_end_by z zs false e =
    subst (λ us. SameIsEnd us (z ∷ zs)) (sym (one_double z zs e)) (ap (λ b. (z == 93) && b) (same_destination zs))

same_is_end : (zs : List ℕ) → SameIsEnd (doubled zs) zs
same_is_end [] = refl
same_is_end (z ∷ zs) = is_end_by z zs (is_brace z) refl

link_ends : (n : ℕ) (zs : List ℕ)
    → ((slice_index zs n == 93) && has_destination (drop (n + 1) zs)) ≡ is_end (drop n zs)
link_ends n zs =
    ap (λ x. (x == 93) && has_destination (drop (n + 1) zs)) (sym (at_drop n zs))
    ∙ ap (λ us. (slice_index (drop n zs) 0 == 93) && has_destination us) (sym (drop-drop 1 n zs))

same_link : (zs : List ℕ) → is_link (doubled zs) ≡ is_link zs
same_link zs =
    link_ends (bracket_at false (doubled zs)) (doubled zs)
    ∙ (ap is_end (same_bracket zs false)
    ∙ (same_is_end (drop (bracket_at false zs) zs) ∙ sym (link_ends (bracket_at false zs) zs)))

-- ---- pieces

-- the piece that begins a double is that of the text
record Same (p q : MessagePiece) (zs : List ℕ) : Type 0 where
  text : p.message_shown ≡ q.message_shown
  in_link : p.in_link ≡ q.in_link
  rest : drop p.further (doubled zs) ≡ doubled (drop q.further zs)

same_plain : (l : Bool) (b : ℕ) (zs : List ℕ) → Same (plain l b) (plain l b) zs
same_plain l b zs = record { text = refl; in_link = refl; rest = refl }

escaped_by : (l : Bool) (x : ℕ) (zs : List ℕ) (b : Bool) → (b ≡ true → is_brace (slice_index zs 0) ≡ false)
    → Same (if b then record { message_shown = escaped l x; further = 1; in_link = l } else plain l 92)
    (if b then record { message_shown = escaped l x; further = 1; in_link = l } else plain l 92) zs
escaped_by l x zs true h = record { text = refl; in_link = refl; rest = drop_one zs (h refl) }
escaped_by l x zs false h = same_plain l 92 zs

no_brace : (z : ℕ) (b : Bool) → is_brace z ≡ b → is_escapable z ≡ true → is_brace z ≡ false
no_brace z true e h = absurd (brace_by (λ x. is_escapable x ≡ true → ⊥) (λ k. true≢false (sym k))
    (λ k. true≢false (sym k)) z e h)
no_brace z false e h = e

same_backslash : (l : Bool) (zs : List ℕ) → Same (backslash_piece l (doubled zs)) (backslash_piece l zs) zs
same_backslash l zs =
    let first : ℕ = slice_index zs 0 in
    subst (λ x. Same (if is_escapable x then record { message_shown = escaped l x; further = 1; in_link = l } else plain
    l 92)
    (backslash_piece l zs) zs) (sym (begins zs))
    (escaped_by l first zs (is_escapable first) (no_brace first (is_brace first) refl))

opening_by : (l b : Bool) (zs : List ℕ)
    → Same (if b then record { message_shown = []; further = 0; in_link = true } else plain l 91)
    (if b then record { message_shown = []; further = 0; in_link = true } else plain l 91) zs
opening_by l true zs = record { text = refl; in_link = refl; rest = refl }
opening_by l false zs = same_plain l 91 zs

same_opening : (l : Bool) (zs : List ℕ) → Same (opening_piece l (doubled zs)) (opening_piece l zs) zs
same_opening l zs =
    subst (λ b. Same (if not l && b then record { message_shown = []; further = 0; in_link = true } else plain l 91)
    (opening_piece l zs) zs) (sym (same_link zs)) (opening_by l (not l && is_link zs) zs)

abbrev closed : Bool → Bool → ℕ → MessagePiece
closed l b n = if l && b then record { message_shown = []; further = n + 2; in_link = false } else plain l 93

closing_by : (l b : Bool) (m n : ℕ) (zs : List ℕ)
    → (b ≡ true → drop (m + 2) (doubled zs) ≡ doubled (drop (n + 2) zs)) → Same (closed l b m) (closed l b n) zs
closing_by true true m n zs h = record { text = refl; in_link = refl; rest = h refl }
closing_by true false m n zs h = same_plain true 93 zs
closing_by false b m n zs h = same_plain false 93 zs

same_closing : (l : Bool) (zs : List ℕ) → Same (closing_piece l (doubled zs)) (closing_piece l zs) zs
same_closing l zs =
    subst (λ b. Same (closed l b (destination_count (doubled zs))) (closing_piece l zs) zs)
    (sym (same_destination zs))
    (closing_by l (has_destination zs) (destination_count (doubled zs)) (destination_count zs) zs (same_after zs))

piece_by : (p q r s t u : MessagePiece) (v : MessagePiece) (zs : List ℕ) (x y z : Bool) → Same p s zs → Same q t zs
    → Same r u zs
    → Same v v zs → Same (if x then p else if y then q else if z then r else v)
    (if x then s else if y then t else if z then u else v) zs
piece_by p q r s t u v zs true y z a b c d = a
piece_by p q r s t u v zs false true z a b c d = b
piece_by p q r s t u v zs false false true a b c d = c
piece_by p q r s t u v zs false false false a b c d = d

same_piece : (l : Bool) (b : ℕ) (zs : List ℕ) → Same (link_piece l b (doubled zs)) (link_piece l b zs) zs
same_piece l b zs =
    piece_by (backslash_piece l (doubled zs)) (opening_piece l (doubled zs)) (closing_piece l (doubled zs))
    (backslash_piece l zs) (opening_piece l zs) (closing_piece l zs) (plain l b) zs (b == 92) (b == 91) (b == 93)
    (same_backslash l zs) (same_opening l zs) (same_closing l zs) (same_plain l b zs)

-- ---- all of a text

skips_shown : (l : Bool) (n : ℕ) (zs : List ℕ) → shown_after [] l n zs ≡ shown_after [] l 0 (drop n zs)
skips_shown l zero zs = refl
skips_shown l (suc n) [] = refl
skips_shown l (suc n) (z ∷ zs) = skips_shown l n zs

skips_unlinked : (l : Bool) (n : ℕ) (zs : List ℕ) → unlinked_after l n zs ≡ unlinked_after l 0 (drop n zs)
skips_unlinked l zero zs = refl
skips_unlinked l (suc n) [] = refl
skips_unlinked l (suc n) (z ∷ zs) = skips_unlinked l n zs

abbrev AllShown : ℕ → Type 0
AllShown n = (l : Bool) (zs : List ℕ) → length zs ≤ n → shown_after [] l 0 (doubled zs) ≡ unlinked_after l 0 zs

-- after a piece
rest_shown : (n : ℕ) → AllShown n → (p q : MessagePiece) (zs : List ℕ) → length zs ≤ n → Same p q zs
    → p.message_shown ++ shown_after [] p.in_link p.further (doubled zs)
    ≡ q.message_shown ++ unlinked_after q.in_link q.further zs
rest_shown n go p q zs short same =
    let shorter : length (drop q.further zs) ≤ n = omega (arith, short, length-drop q.further zs) in
    ap (λ us. us ++ shown_after [] p.in_link p.further (doubled zs)) same.text
    ∙ (ap (λ l. q.message_shown ++ shown_after [] l p.further (doubled zs)) same.in_link
    ∙ ap (λ us. q.message_shown ++ us)
    (skips_shown q.in_link p.further (doubled zs)
    ∙ (ap (shown_after [] q.in_link 0) same.rest
    ∙ (go q.in_link (drop q.further zs) shorter ∙ sym (skips_unlinked q.in_link q.further zs)))))

abbrev SameShown : Bool → ℕ → List ℕ → Type 0
SameShown l z zs = shown_after [] l 0 (doubled (z ∷ zs)) ≡ unlinked_after l 0 (z ∷ zs)

brace_shown : (n : ℕ) → AllShown n → (l : Bool) (z : ℕ) (zs : List ℕ) → length zs ≤ n → is_brace z ≡ true
    → SameShown l z zs
unfolding piece_of
brace_shown n go l z zs short e =
    brace_by (λ x. SameShown l x zs) (ap (λ us. 123 ∷ us) (go l zs short)) (ap (λ us. 125 ∷ us) (go l zs short)) z e

no_brace_piece : (l : Bool) (z : ℕ) (zs : List ℕ) → is_brace z ≡ false → piece_of [] l z zs ≡ link_piece l z zs
unfolding piece_of
no_brace_piece l z zs e = rw e

plain_shown : (n : ℕ) → AllShown n → (l : Bool) (z : ℕ) (zs : List ℕ) → length zs ≤ n → is_brace z ≡ false
    → SameShown l z zs
plain_shown n go l z zs short e =
    ap (shown_after [] l 0) (one_double z zs e)
    ∙ (ap (λ (p : MessagePiece). p.message_shown ++ shown_after [] p.in_link p.further (doubled zs))
    (no_brace_piece l z (doubled zs) e)
    ∙ rest_shown n go (link_piece l z (doubled zs)) (link_piece l z zs) zs short (same_piece l z zs))

shown_by : (n : ℕ) → AllShown n → (l : Bool) (z : ℕ) (zs : List ℕ) → length zs ≤ n → (b : Bool) → is_brace z ≡ b
    → SameShown l z zs
shown_by n go l z zs short true e = brace_shown n go l z zs short e
shown_by n go l z zs short false e = plain_shown n go l z zs short e

all_shown : (n : ℕ) → AllShown n
all_shown n l [] short = refl
all_shown zero l (z ∷ zs) short = absurd (omega (arith, short))
all_shown (suc n) l (z ∷ zs) short =
    let shorter : length zs ≤ n = omega (arith, short) in
    shown_by n (all_shown n) l z zs shorter (is_brace z) refl

pub doubled_shown : (text : List ℕ) → message_shown [] (doubled text) ≡ without_links text
doubled_shown text = all_shown (length text) false text (omega arith)
