-- Parts of a report that are told one after the other: causes, and related reports.
use Rattle.std.proofs.Common.{◌≡◌, ℕ, List, ◌++◌, refl, sym, ap, ◌∙◌, append_assoc}

-- Some parts are told, and these are left: whatever answers these have, the whole has some.
pub record ToldSoFar {A L : Type 0} (are : A → L → Type 0) (text : A → L → List ℕ) (all left : L) (old now : List ℕ)
    : Type 0 where
  pub with_rest : A → A
  pub possible : (more : A) → are more left → are (with_rest more) all
  pub joined : (more : A) → now ++ text more left ≡ old ++ text (with_rest more) all

pub none_so_far : {A L : Type 0} (are : A → L → Type 0) (text : A → L → List ℕ) (all : L) (old : List ℕ)
    → ToldSoFar are text all all old old
none_so_far are text all old = record { with_rest = λ more. more; possible = λ more p. p; joined = λ more. refl }

-- one part more is told, the first of those that are left
pub one_so_far : {A L : Type 0} (are : A → L → Type 0) (text : A → L → List ℕ) (all left next : L) (add : A → A)
    (old now new part : List ℕ) → ToldSoFar are text all left old now
    → ((more : A) → are more next → are (add more) left) → ((more : A) → text (add more) left ≡ part ++ text more next)
    → new ≡ now ++ part → ToldSoFar are text all next old new
one_so_far are text all left next add old now new part so_far may step e = record {
  with_rest = λ more. so_far.with_rest (add more);
  possible = λ more p. so_far.possible (add more) (may more p);
  joined = λ more. ap (λ x. x ++ text more next) e ∙ append_assoc now part (text more next)
      ∙ ap (λ x. now ++ x) (sym (step more))
      ∙ so_far.joined (add more);
}
