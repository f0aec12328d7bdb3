-- A text in which no link ends is shown as it is.
use Rattle.std.proofs.Common.{◌≡◌, ℕ, zero, suc, ◌+◌, Bool, true, false, eqb, ◌&&◌, ◌||◌, List, [], ◌∷◌, ◌++◌}
use Rattle.std.proofs.Common.{drop, slice_index, refl, sym, ap, ◌∙◌, arith}
use Rattle.std.proofs.lemmas.Bool.{and_parts, eqb-true}
use Rattle.miette_read_sarif.specs.rules.Messages.{MessagePiece, bracket_at, has_destination, is_escapable, is_link}
use Rattle.miette_read_sarif.specs.rules.Messages.{plain}
use Rattle.miette_read_laws.specs.laws.LinkEnds.{has_link_end}
use Rattle.miette_read_laws.specs.laws.Links.{link_piece, unlinked_after, without_links}

neither : (a b : Bool) → (a || b) ≡ false → b ≡ false
neither true b h = absurd (cc)
neither false b h = h

never : (a : Bool) → (a && false) ≡ false
never true = refl
never false = refl

either : (a b : Bool) → b ≡ true → (a || b) ≡ true
either true b h = refl
either false b h = h

-- ---- no link

end_there : (bs : List ℕ) (k : ℕ) → eqb (slice_index bs k) 93 ≡ true
    → eqb (slice_index (drop (k + 1) bs) 0) 40 ≡ true → has_link_end bs ≡ true
end_there [] k h g = absurd (cc)
end_there (b ∷ bs) zero h g = rw (h, g) refl
end_there (b ∷ bs) (suc k) h g =
    let on : suc (k + 1) ≡ suc k + 1 = omega arith in
    either (eqb b 93 && eqb (slice_index bs 0) 40) (has_link_end bs)
    (end_there bs k h (ap (λ n. eqb (slice_index (drop n (b ∷ bs)) 0) 40) on ∙ g))

no_link : (bs : List ℕ) (b : Bool) → is_link bs ≡ b → has_link_end bs ≡ false → is_link bs ≡ false
no_link bs false e h = e
no_link bs true e h =
    let k : ℕ = bracket_at false bs in
    let parts = and_parts (eqb (slice_index bs k) 93) (has_destination (drop (k + 1) bs)) e in
    let opened = and_parts (eqb (slice_index (drop (k + 1) bs) 0) 40) _ parts.1 in
    let ended : has_link_end bs ≡ true = end_there bs k parts.0 opened.0 in
    absurd (cc)

-- ---- a byte that stands for itself

plain_here : (b : ℕ) (bs : List ℕ) (x y z : Bool) → eqb b 92 ≡ x → eqb b 91 ≡ y → eqb b 93 ≡ z
    → (eqb b 92 && is_escapable (slice_index bs 0)) ≡ false → is_link bs ≡ false → link_piece false b bs ≡ plain false b
plain_here b bs true y z l m n none linkless =
    let same : b ≡ 92 = eqb-true b 92 l in
    let alone : is_escapable (slice_index bs 0) ≡ false =
    sym (ap (λ t. t && is_escapable (slice_index bs 0)) l) ∙ none in
    rw (l, alone) (ap (plain false) (sym same))
plain_here b bs false true z l m n none linkless =
    let same : b ≡ 91 = eqb-true b 91 m in
    rw (l, m, linkless) (ap (plain false) (sym same))
plain_here b bs false false true l m n none linkless =
    let same : b ≡ 93 = eqb-true b 93 n in
    rw (l, m, n) (ap (plain false) (sym same))
plain_here b bs false false false l m n none linkless = rw (l, m, n) refl

one_kept : (b : ℕ) (bs : List ℕ) → (eqb b 92 && is_escapable (slice_index bs 0)) ≡ false → is_link bs ≡ false
    → unlinked_after false 0 bs ≡ bs → unlinked_after false 0 (b ∷ bs) ≡ b ∷ bs
one_kept b bs none linkless more =
    ap (λ (p : MessagePiece). p.message_shown ++ unlinked_after p.in_link p.further bs)
    (plain_here b bs (eqb b 92) (eqb b 91) (eqb b 93) refl refl refl none linkless)
    ∙ ap (λ l. b ∷ l) more

-- a backslash, and what it escapes
escape_here : (b c : ℕ) (cs : List ℕ) → eqb b 92 ≡ true → is_escapable c ≡ true
    → link_piece false b (c ∷ cs) ≡ record { message_shown = b ∷ (c ∷ []); further = 1; in_link = false }
escape_here b c cs l m =
    let made = λ (x : ℕ). (let p : MessagePiece = record { message_shown = x ∷ (c ∷ []); further = 1; in_link = false } in p) in
    let same : 92 ≡ b = sym (eqb-true b 92 l) in
    rw (l, m) (ap made same)

two_kept : (t : Bool) (b c : ℕ) (cs : List ℕ) → (eqb b 92 && is_escapable c) ≡ t → is_link (c ∷ cs) ≡ false
    → unlinked_after false 0 (c ∷ cs) ≡ c ∷ cs → unlinked_after false 0 cs ≡ cs
    → unlinked_after false 0 (b ∷ (c ∷ cs)) ≡ b ∷ (c ∷ cs)
two_kept false b c cs e linkless one more = one_kept b (c ∷ cs) e linkless one
two_kept true b c cs e linkless one more =
    let parts = and_parts (eqb b 92) (is_escapable c) e in
    ap (λ (p : MessagePiece). p.message_shown ++ unlinked_after p.in_link p.further (c ∷ cs))
    (escape_here b c cs parts.0 parts.1)
    ∙ ap (λ l. b ∷ (c ∷ l)) more

kept : (text : List ℕ) → has_link_end text ≡ false → unlinked_after false 0 text ≡ text
kept [] h = refl
kept (b ∷ []) h = one_kept b [] (never (eqb b 92)) refl refl
kept (b ∷ (c ∷ cs)) h =
    let after : has_link_end (c ∷ cs) ≡ false = neither _ (has_link_end (c ∷ cs)) h in
    let further : has_link_end cs ≡ false = neither _ (has_link_end cs) after in
    two_kept (eqb b 92 && is_escapable c) b c cs refl (no_link (c ∷ cs) (is_link (c ∷ cs)) refl after)
    (kept (c ∷ cs) after) (kept cs further)

pub linkless_kept : (text : List ℕ) → has_link_end text ≡ false → without_links text ≡ text
linkless_kept text h = kept text h
