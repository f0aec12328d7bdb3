-- Pieces of a text, one after another.
use Rattle.std.proofs.Common.{◌≡◌, ℕ, zero, suc, ◌+◌, ◌<◌, ◌≤◌, Bool, true, false, cond, List, [], ◌∷◌, ◌++◌, refl, sym}
use Rattle.std.proofs.Common.{ap, ◌∙◌, arith, append_assoc, length, get_or, take, drop}
use Rattle.std.specs.Prelude.{nat_lt, not, Some, None, position, ◌||◌, ◌==◌, if◌then◌else◌}
use Rattle.std.specs.List.{position_or_len, prefix_len}
use Rattle.std.proofs.Math.Seq.{drop-cons}
use Rattle.std.proofs.lemmas.List.Quantifiers.{position-Some}
use Rattle.std.proofs.lemmas.Bool.{ltb-false}
use Rattle.std.proofs.lemmas.Bool.Decides.{nat_tests}
use Rattle.serde_json.specs.Data.{Data}
use Rattle.miette_read_sarif.specs.rules.Messages.{MessagePiece, backslash_piece, brace_piece, closing_piece, is_brace}
use Rattle.miette_read_sarif.specs.rules.Messages.{is_mark, opening_piece, piece_of, plain, shown_after}

pub mark_is_ascii : (x : ℕ) → is_mark x ≡ true → x < 128
mark_is_ascii x e = grind (arith, nat_tests)

-- ---- a byte that is no mark stands for itself

none_of : (braces backslash opening closing : Bool) (a b c d e : MessagePiece)
    → (braces || (backslash || (opening || closing))) ≡ false
    → (if braces then a else if backslash then b else if opening then c else if closing then d else e) ≡ e
none_of true backslash opening closing a b c d e h = absurd (cc)
none_of false true opening closing a b c d e h = absurd (cc)
none_of false false true closing a b c d e h = absurd (cc)
none_of false false false true a b c d e h = absurd (cc)
none_of false false false false a b c d e h = refl

stands : (arguments : List Data) (in_link : Bool) (b : ℕ) (bs : List ℕ) → is_mark b ≡ false
    → piece_of arguments in_link b bs ≡ plain in_link b
unfolding piece_of
stands arguments in_link b bs h =
    none_of (is_brace b) (b == 92) (b == 91) (b == 93) (brace_piece arguments in_link b bs) (backslash_piece in_link bs)
    (opening_piece in_link bs) (closing_piece in_link bs) (plain in_link b) h

module _ (arguments : List Data) where
  -- what is shown with a piece in front
  with_piece : MessagePiece → List ℕ → List ℕ
  with_piece piece bs = piece.message_shown ++ shown_after arguments piece.in_link piece.further bs

  byte_shown : (in_link : Bool) (b : ℕ) (bs : List ℕ) → is_mark b ≡ false
      → shown_after arguments in_link 0 (b ∷ bs) ≡ b ∷ shown_after arguments in_link 0 bs
  unfolding with_piece
  byte_shown in_link b bs h = ap (λ p. with_piece p bs) (stands arguments in_link b bs h)

  left_out : (in_link : Bool) (n : ℕ) (xs : List ℕ)
      → shown_after arguments in_link n xs ≡ shown_after arguments in_link 0 (drop n xs)
  left_out in_link zero xs = refl
  left_out in_link (suc n) [] = refl
  left_out in_link (suc n) (x ∷ xs) = left_out in_link n xs

  -- bytes that are no marks, in front of others
  no_marks : (in_link : Bool) (xs : List ℕ) (i : ℕ) → i ≤ length xs
      → ((k : ℕ) → k < i → is_mark (get_or xs k 0) ≡ false)
      → shown_after arguments in_link 0 xs ≡ take i xs ++ shown_after arguments in_link 0 (drop i xs)
  no_marks in_link xs zero h f = refl
  no_marks in_link [] (suc i) h f = absurd (omega arith)
  no_marks in_link (x ∷ xs) (suc i) h f =
      byte_shown in_link x xs (f 0 (omega arith))
      ∙ ap (λ l. x ∷ l) (no_marks in_link xs i (omega arith) (λ k l. f (suc k) (omega arith)))

-- ---- the first mark

pub record NextMark (xs : List ℕ) (i : ℕ) : Type 0 where
  pub inside : i < length xs
  pub here : is_mark (get_or (drop i xs) 0 0) ≡ true
  pub low : get_or xs i 0 < 128
  pub before : (k : ℕ) → k < i → is_mark (get_or xs k 0) ≡ false

pub next_mark : (xs : List ℕ) (i : ℕ) → Some i ≡ position is_mark xs → NextMark xs i
next_mark xs i e =
    let found = position-Some is_mark xs i 0 (sym e) in
    let here : get_or (drop i xs) 0 0 ≡ get_or xs i 0 = ap (λ l. get_or l 0 0) (drop-cons xs i 0 found.0) in
    record {
      inside = found.0;
      here = ap is_mark here ∙ found.1;
      low = mark_is_ascii (get_or xs i 0) found.1;
      before = found.2;
    }

-- what is written up to it and for its piece
pub piece_written : (arguments : List Data) (in_link : Bool) (start mid new xs rest whole : List ℕ) (i : ℕ)
    → NextMark xs i → let piece = piece_of arguments in_link (get_or (drop i xs) 0 0) (drop 1 (drop i xs)) in
    start ++ shown_after arguments in_link 0 xs ≡ whole → mid ≡ start ++ take i xs → new ≡ mid ++ piece.message_shown
    → rest ≡ drop piece.further (drop 1 (drop i xs)) → new ++ shown_after arguments piece.in_link 0 rest ≡ whole
piece_written arguments in_link start mid new xs rest whole i n e got more is =
    let x = get_or xs i 0 in
    let here : get_or (drop i xs) 0 0 ≡ x = ap (λ l. get_or l 0 0) (drop-cons xs i 0 n.inside) in
    let after = drop 1 (drop i xs) in
    let piece = piece_of arguments in_link (get_or (drop i xs) 0 0) after in
    let cut : drop i xs ≡ get_or (drop i xs) 0 0 ∷ after =
    drop-cons xs i 0 n.inside ∙ ap (λ l. get_or l 0 0 ∷ drop 1 l) (sym (drop-cons xs i 0 n.inside)) in
    let left : shown_after arguments piece.in_link piece.further after
    ≡ shown_after arguments piece.in_link 0 rest =
    left_out arguments piece.in_link piece.further after ∙ ap (shown_after arguments piece.in_link 0) (sym is) in
    let split : shown_after arguments in_link 0 xs
    ≡ take i xs ++ (piece.message_shown ++ shown_after arguments piece.in_link 0 rest) =
    no_marks arguments in_link xs i (omega (arith, n.inside)) n.before
    ∙ ap (λ l. take i xs ++ shown_after arguments in_link 0 l) cut
    ∙ ap (λ l. take i xs ++ (piece.message_shown ++ l)) left in
    ap (λ l. l ++ shown_after arguments piece.in_link 0 rest) (more ∙ ap (λ l. l ++ piece.message_shown) got)
    ∙ (append_assoc (start ++ take i xs) piece.message_shown (shown_after arguments piece.in_link 0 rest)
    ∙ (append_assoc start (take i xs) (piece.message_shown ++ shown_after arguments piece.in_link 0 rest)
    ∙ (ap (λ l. start ++ l) (sym split) ∙ e)))

-- ---- a text without marks

module _ (arguments : List Data) (in_link : Bool) where
  one_plain : (x : ℕ) (xs : List ℕ) (b : Bool) → is_mark x ≡ b
      → suc (length xs) ≤ cond (not b) (1 + prefix_len (λ y. not (is_mark y)) xs) 0
      → (length xs ≤ prefix_len (λ y. not (is_mark y)) xs → shown_after arguments in_link 0 xs ≡ xs)
      → shown_after arguments in_link 0 (x ∷ xs) ≡ x ∷ xs
  one_plain x xs true e l f = absurd (omega arith)
  one_plain x xs false e l f = byte_shown arguments in_link x xs e ∙ ap (λ b. x ∷ b) (f (omega arith))

  all_plain : (xs : List ℕ) → length xs ≤ prefix_len (λ x. not (is_mark x)) xs
      → shown_after arguments in_link 0 xs ≡ xs
  all_plain [] h = refl
  all_plain (x ∷ xs) h = one_plain x xs (is_mark x) refl h (all_plain xs)

  none_found : (xs : List ℕ) (b : Bool) → nat_lt (position_or_len is_mark xs) (length xs) ≡ b
      → None ≡ cond b (Some (position_or_len is_mark xs)) None → shown_after arguments in_link 0 xs ≡ xs
  none_found xs true f g = absurd (cc)
  none_found xs false f g = all_plain xs (ltb-false (position_or_len is_mark xs) (length xs) f)

  pub none_left : (xs : List ℕ) → None ≡ position is_mark xs → shown_after arguments in_link 0 xs ≡ xs
  none_left xs e = none_found xs (nat_lt (position_or_len is_mark xs) (length xs)) refl e
