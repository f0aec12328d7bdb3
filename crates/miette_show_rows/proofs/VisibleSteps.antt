-- Bytes whose control characters are shown, byte by byte.
use Rattle.std.proofs.Common.{◌≡◌, ℕ, suc, List, [], ◌∷◌, ◌++◌, Bool, true, false, length, drop, refl, sym, ap, subst}
use Rattle.std.proofs.Common.{◌∙◌, append_assoc, arith}
use Rattle.std.proofs.lemmas.Bool.Decides.{nat_tests}
use Rattle.std.specs.Prelude.{◌&&◌, ◌||◌, ◌==◌, if◌then◌else◌, nat_le}
use Rattle.miette_show_rows.specs.rules.Visible.{first_or, has_control, is_control, is_wider, is_widest, next_within}
use Rattle.miette_show_rows.specs.rules.Visible.{sign_at, sign_now, mask_controls, visible_after}

-- ---- one byte more

pub one_shown : (before shown : List ℕ) (left rest more : List ℕ) (b : ℕ) → rest ≡ b ∷ more
    → shown ≡ before ++ first_or b (sign_now left rest) ∷ []
    → shown ++ visible_after (drop 1 (sign_now left rest)) more ≡ before ++ visible_after left rest
one_shown before shown left rest more b is made =
    let now = sign_now left rest in
    ap (λ l. l ++ visible_after (drop 1 now) more) made
    ∙ append_assoc before (first_or b now ∷ []) (visible_after (drop 1 now) more)
    ∙ ap (λ r. before ++ (first_or b (sign_now left r) ∷ visible_after (drop 1 (sign_now left r)) more)) is
    ∙ ap (λ r. before ++ visible_after left r) (sym is)

-- ---- as long as it was

pub same_length : (left bytes : List ℕ) → length (visible_after left bytes) ≡ length bytes
same_length left [] = refl
same_length left (b ∷ bs) = ap suc (same_length (drop 1 (sign_now left (b ∷ bs))) bs)

-- ---- where there are none

abbrev chosen : Bool → Bool → Bool → List ℕ
chosen c w v =
    if c then 63 ∷ [] else if w then 194 ∷ (191 ∷ []) else if v then 239 ∷ (191 ∷ (189 ∷ [])) else []

none_here : (c w v r : Bool) → (c || (w || (v || r))) ≡ false → (chosen c w v ≡ []) × (r ≡ false)
none_here true w v r e = cc
none_here false true v r e = cc
none_here false false true r e = cc
none_here false false false r e = (refl, e)

pub same_bytes : (bytes : List ℕ) → has_control bytes ≡ false → mask_controls bytes ≡ bytes
same_bytes [] e = refl
same_bytes (b ∷ bs) e =
    let (none, later) = none_here (is_control b) (is_wider b bs) (is_widest b bs) (has_control bs) e in
    ap (λ s. first_or b s ∷ visible_after (drop 1 s) bs) none ∙ ap (λ l. b ∷ l) (same_bytes bs later)

-- ---- none is left

abbrev Follows : Bool → Bool → Type 0
Follows a b = a ≡ true → b ≡ true

either_follows : (a b c d : Bool) → Follows a c → Follows b d → Follows (a || b) (c || d)
either_follows true b c d f g = λ e. ap (λ x. x || d) (f refl)
either_follows false b true d f g = λ e. refl
either_follows false b false d f g = g

both_follow : (a b d : Bool) → (a ≡ true → Follows b d) → Follows (a && b) (a && d)
both_follow true b d f = f refl
both_follow false b d f = λ e. e

falls : (a b : Bool) → Follows a b → b ≡ false → a ≡ false
falls true b f e = let no : true ≡ false = sym (f refl) ∙ e in cc
falls false b f e = refl

-- a byte that isn't the first of a sign was there
next_chosen : (low high b : ℕ) (bs : List ℕ) (c w v : Bool) → next_within low high (63 ∷ []) ≡ false
    → next_within low high (194 ∷ []) ≡ false → next_within low high (239 ∷ []) ≡ false
    → Follows (next_within low high (first_or b (chosen c w v) ∷ bs)) (next_within low high (b ∷ bs))
next_chosen low high b bs true w v x y z = λ e. let no : false ≡ true = sym x ∙ e in cc
next_chosen low high b bs false true v x y z = λ e. let no : false ≡ true = sym y ∙ e in cc
next_chosen low high b bs false false true x y z = λ e. let no : false ≡ true = sym z ∙ e in cc
next_chosen low high b bs false false false x y z = λ e. e

next_kept : (low high : ℕ) (bytes : List ℕ) → next_within low high (63 ∷ []) ≡ false
    → next_within low high (194 ∷ []) ≡ false → next_within low high (239 ∷ []) ≡ false
    → Follows (next_within low high (mask_controls bytes)) (next_within low high bytes)
next_kept low high [] x y z = λ e. e
next_kept low high (b ∷ bs) x y z =
    next_chosen low high b bs (is_control b) (is_wider b bs) (is_widest b bs) x y z

within_one : (k b : ℕ) → (nat_le k b && nat_le b k) ≡ true → b ≡ k
within_one k b e = (let h = e in grind (arith, nat_tests))

wider_kept : (b : ℕ) (bs : List ℕ) → Follows (is_wider b (mask_controls bs)) (is_wider b bs)
wider_kept b bs =
    either_follows (b == 194 && next_within 128 159 (mask_controls bs))
    (b == 216 && next_within 156 156 (mask_controls bs))
    (b == 194 && next_within 128 159 bs) (b == 216 && next_within 156 156 bs)
    (both_follow (b == 194) _ _ (λ e. next_kept 128 159 bs refl refl refl))
    (both_follow (b == 216) _ _ (λ e. next_kept 156 156 bs refl refl refl))

-- the last byte of one of three, by the one in front of it
abbrev LastAfter : ℕ → ℕ → ℕ → ℕ → ℕ → List ℕ → Type 0
LastAfter low high other top k bytes = next_within k k (mask_controls bytes) ≡ true
    → Follows (next_within low high (drop 1 (mask_controls bytes)) || next_within other top
    (drop 1 (mask_controls bytes)))
    (next_within low high (drop 1 bytes) || next_within other top (drop 1 bytes))

after_128 : (bytes : List ℕ) → LastAfter 142 143 170 174 128 bytes
after_128 [] e = cc
after_128 (b ∷ bs) e =
    let is : b ≡ 128 = within_one 128 b (next_kept 128 128 (b ∷ bs) refl refl refl e) in
    subst (λ (x : ℕ). Follows
    (next_within 142 143 (drop 1 (mask_controls (x ∷ bs))) || next_within 170 174 (drop 1 (mask_controls (x ∷ bs))))
    (next_within 142 143 bs || next_within 170 174 bs)) (sym is)
    (either_follows _ _ _ _ (next_kept 142 143 bs refl refl refl) (next_kept 170 174 bs refl refl refl))

after_129 : (bytes : List ℕ) → next_within 129 129 (mask_controls bytes) ≡ true
    → Follows (next_within 166 169 (drop 1 (mask_controls bytes))) (next_within 166 169 (drop 1 bytes))
after_129 [] e = cc
after_129 (b ∷ bs) e =
    let is : b ≡ 129 = within_one 129 b (next_kept 129 129 (b ∷ bs) refl refl refl e) in
    subst (λ (x : ℕ). Follows (next_within 166 169 (drop 1 (mask_controls (x ∷ bs)))) (next_within 166 169 bs)) (sym is)
    (next_kept 166 169 bs refl refl refl)

and_both : (a b c d : Bool) → Follows a c → (a ≡ true → Follows b d) → Follows (a && b) (c && d)
and_both true b true d f g = g refl
and_both true b false d f g = let no : false ≡ true = f refl in cc
and_both false b c d f g = λ e. cc

widest_kept : (b : ℕ) (bs : List ℕ) → Follows (is_widest b (mask_controls bs)) (is_widest b bs)
widest_kept b bs =
    both_follow (b == 226) _ _ (λ e. either_follows _ _ _ _
    (and_both _ _ _ _ (next_kept 128 128 bs refl refl refl) (after_128 bs))
    (and_both _ _ _ _ (next_kept 129 129 bs refl refl refl) (after_129 bs)))

nothing_here : (c w v r : Bool) → c ≡ false → w ≡ false → v ≡ false → r ≡ false → (c || (w || (v || r))) ≡ false
nothing_here true w v r a b d e = cc
nothing_here false true v r a b d e = cc
nothing_here false false true r a b d e = cc
nothing_here false false false r a b d e = e

-- the sign for two bytes is none
sign_of_two : (bytes : List ℕ) → has_control (visible_after (191 ∷ []) bytes) ≡ false
    → has_control (194 ∷ visible_after (191 ∷ []) bytes) ≡ false
sign_of_two [] h = refl
sign_of_two (b ∷ bs) h = h

left_by : (b : ℕ) (bs : List ℕ) (c w v : Bool) → is_control b ≡ c → is_wider b bs ≡ w → is_widest b bs ≡ v
    → has_control (mask_controls bs) ≡ false → has_control (visible_after (191 ∷ []) bs) ≡ false
    → has_control (visible_after (191 ∷ (189 ∷ [])) bs) ≡ false
    → has_control (first_or b (chosen c w v) ∷ visible_after (drop 1 (chosen c w v)) bs) ≡ false
left_by b bs true w v p q r none second third = none
left_by b bs false true v p q r none second third = sign_of_two bs second
left_by b bs false false true p q r none second third = third
left_by b bs false false false p q r none second third =
    nothing_here (is_control b) (is_wider b (mask_controls bs)) (is_widest b (mask_controls bs))
    (has_control (mask_controls bs)) p
    (falls _ _ (wider_kept b bs) q) (falls _ _ (widest_kept b bs) r) none

-- none is in what can be seen, nor in what stands after the first bytes of a sign
pub record NoneLeft (bytes : List ℕ) : Type 0 where
  pub whole : has_control (mask_controls bytes) ≡ false
  pub second : has_control (visible_after (191 ∷ []) bytes) ≡ false
  pub third : has_control (visible_after (191 ∷ (189 ∷ [])) bytes) ≡ false
  pub last : has_control (visible_after (189 ∷ []) bytes) ≡ false

pub none_left : (bytes : List ℕ) → NoneLeft bytes
none_left [] = record { whole = refl; second = refl; third = refl; last = refl }
none_left (b ∷ bs) =
    let h = none_left bs in
    record {
      whole = left_by b bs (is_control b) (is_wider b bs) (is_widest b bs) refl refl refl h.whole h.second h.third;
      second = h.whole;
      third = h.last;
      last = h.whole;
    }
