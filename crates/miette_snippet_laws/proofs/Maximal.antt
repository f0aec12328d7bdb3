-- The runs of a list hold its numbers in order, each is consecutive, and none goes on into the next.
use Rattle.std.proofs.Common.{ℕ, ◌+◌, ◌≡◌, eqb, List, [], ◌∷◌, refl, ap}
use Rattle.std.proofs.lemmas.Bool.{eqb-true, eqb-false}
use Rattle.std.specs.List.{AllByRecursion, concat}
use Rattle.miette_snippet_rules.specs.rules.Numbers.{onto_range, ranges, IsRange, AreParted}
use Rattle.miette_lines.proofs.Cases.{by_cases}

-- what runs have
pub record AreRuns (ks : List ℕ) (rs : List (List ℕ)) : Type 0 where
  pub all : concat rs ≡ ks
  pub each : AllByRecursion IsRange rs
  pub parted : AreParted rs

longer : (k next : ℕ) (run : List ℕ) (later : List (List ℕ)) → AreParted ((next ∷ run) ∷ later)
    → AreParted ((k ∷ next ∷ run) ∷ later)
longer k next run [] h = tt
longer k next run ([] ∷ later) h = absurd h.0
longer k next run ((j ∷ js) ∷ later) h = (h.0, h.1)

onto : (k : ℕ) (ks : List ℕ) (rs : List (List ℕ)) → AreRuns ks rs → AreRuns (k ∷ ks) (onto_range k rs)
onto k ks [] h = record { all = ap (λ r. k ∷ r) h.all; each = (tt, tt); parted = tt }
onto k ks ([] ∷ later) h = absurd h.each.0
onto k ks ((next ∷ run) ∷ later) h =
    by_cases {C = AreRuns (k ∷ ks) (onto_range k ((next ∷ run) ∷ later))} (eqb next (k + 1))
    (λ t. rw t (record {
      all = ap (λ r. k ∷ r) h.all;
      each = ((eqb-true next (k + 1) t, h.each.0), h.each.1);
      parted =
          longer k next run later h.parted;
    }))
    (λ f. rw f (record {
      all = ap (λ r. k ∷ r) h.all;
      each = (tt, h.each);
      parted =
          (eqb-false next (k + 1) f, h.parted);
    }))

are_runs : (ks : List ℕ) → AreRuns ks (ranges ks)
are_runs [] = record { all = refl; each = tt; parted = tt }
are_runs (k ∷ ks) = onto k ks (ranges ks) (are_runs ks)

pub ranges_are_maximal : (ks : List ℕ) → (concat (ranges ks) ≡ ks) × AllByRecursion IsRange (ranges ks)
    × AreParted (ranges ks)
ranges_are_maximal ks = let h = are_runs ks in (h.all, h.each, h.parted)
