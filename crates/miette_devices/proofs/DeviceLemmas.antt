-- Steps of reading a device to its end and of writing to one.
use Rattle.std.proofs.Common.{◌≡◌, ℕ, ◌⊎◌, ◌↔◌, ◌++◌, ◌-◌, List, Option, Some, None, Result, Ok, Err, Bool, true, false}
use Rattle.std.proofs.Common.{IsTrue, IfSome, length, take, drop, refl, sym, ◌∙◌, ap, append-nil, append_assoc}
use Rattle.std.proofs.Common.{take-append-drop}
use Rattle.std.specs.Io.KnownBytes.{Consumes, IsAtEnd}
use Rattle.miette_devices.specs.views.Device.{IsWriteFault}
use Rattle.std.proofs.Common.{inl, inr}
use Rattle.std.proofs.Math.Seq.{take-length}
use Rattle.std.proofs.lemmas.List.{length-drop}

-- at the end of a reader, the bytes read are all that it had
pub IfSome-read_end : (a b c : Option (List ℕ)) (bs buf : List ℕ) (n : ℕ) → n ≡ 0 → Consumes a b bs
    → Consumes b c (take n buf) → IsAtEnd c → IfSome a (λ xs. bs ≡ xs)
IfSome-read_end None b c bs buf n z p q e = tt
IfSome-read_end (Some xs) None c bs buf n z p q e = absurd p
IfSome-read_end (Some xs) (Some ys) None bs buf n z p q e = absurd q
IfSome-read_end (Some xs) (Some ys) (Some zs) bs buf n z p q e =
    sym (p ∙ ap (λ l. bs ++ l) (q ∙ ap (λ k. take k buf ++ zs) z ∙ e) ∙ append-nil bs)

-- a write that took something is no failure
pub none-failed : {E : Type 0} (old new : Bool) (r : Result ℕ E) (buf : List ℕ) (n : ℕ)
    → (IsTrue new ↔ (IsTrue old ⊎ IsWriteFault r buf)) → old ≡ false → r ≡ Ok n → (n ≡ 0 → ⊥) → new ≡ false
none-failed old false r buf n h o e z = refl
none-failed true true r buf n h o e z = cc
none-failed false true (Err x) buf n h o e z = cc
none-failed false true (Ok m) buf n h o e z =
    absurd (elim (h.0 refl) [
      | inl p ↦ (let p' : false ≡ true = p in cc)
      | inr (inl q) ↦
          (let q' : false ≡ true = q in cc)
      | inr (inr w) ↦ z (let k : Ok n ≡ Ok 0 = sym e ∙ w.0 in cc)
    ])

-- what was taken, a step later
pub taken-more : (bytes taken rest : List ℕ) (n m : ℕ) → bytes ≡ taken ++ rest → m ≡ length rest → bytes
    ≡ (taken ++ take n rest) ++ take (m - n) (drop n rest)
taken-more bytes taken rest n m e l =
    let k : m - n ≡ length (drop n rest) = ap (λ j. j - n) l ∙ sym (length-drop n rest) in
    e ∙ ap (λ x. taken ++ x) (sym (take-append-drop n rest)) ∙ sym (append_assoc taken (take n rest) (drop n rest))
    ∙ ap (λ x. (taken ++ take n rest) ++ x) (sym (ap (λ j. take j (drop n rest)) k ∙ take-length (drop n rest)))
