-- Walks that begin at a stop that was kept.
use Rattle.std.proofs.Common.{ℕ, ◌<◌, ◌≤◌, ◌≡◌, Bool, true, false, eqb, ltb, leb, ◌&&◌, ◌||◌, List, [], ◌∷◌}
use Rattle.std.proofs.Common.{refl, sym, ap, ◌∙◌, arith}
use Rattle.std.proofs.lemmas.Bool.Decides.{nat_tests}
use Rattle.miette_positions.specs.declared.sampled_source.SearchTarget.{SearchTarget}
use Rattle.miette_positions.specs.declared.sampled_source.SearchTarget.TheVariants.{ToOffset, ToPosition}
use Rattle.miette_positions.specs.declared.position.PositionEncoding.{PositionEncoding}
use Rattle.miette_positions.specs.declared.position.Stop.{Stop}
use Rattle.miette_positions.specs.rules.Regions.{first_stop, last_stop}
use Rattle.miette_positions.specs.rules.Stops.{stops_from}
use Rattle.miette_positions.specs.steps.Samples.{IsSample, IsWithin, is_reached}
use Rattle.miette_positions.proofs.Stepping.{Later}

pub last_on : (test : Stop → Bool) (s t : Stop) (ss ts : List Stop) → ss ≡ t ∷ ts → test t ≡ true →
    last_stop test s ss ≡ last_stop test t ts
last_on test s t ss ts e h = ap (last_stop test s) e ∙ rw h refl

pub last_here : (test : Stop → Bool) (s t : Stop) (ss ts : List Stop) → ss ≡ t ∷ ts → test t ≡ false →
    last_stop test s ss ≡ s
last_here test s t ss ts e h = ap (last_stop test s) e ∙ rw h refl

pub first_on : (test : Stop → Bool) (s t : Stop) (ss ts : List Stop) → ss ≡ t ∷ ts → test s ≡ false →
    first_stop test s ss ≡ first_stop test t ts
first_on test s t ss ts e h = ap (first_stop test s) e ∙ rw h refl

pub first_here : (test : Stop → Bool) (s : Stop) (ss : List Stop) → test s ≡ true → first_stop test s ss ≡ s
first_here test s [] h = refl
first_here test s (t ∷ ts) h = rw h refl

reached_before : (target : SearchTarget) (m n : Stop) → Later m n → is_reached target n ≡ true →
    is_reached target m ≡ true
reached_before (ToOffset at) m n l h = offsets m.offset n.offset at l.offset h
  where
    offsets : (a b at : ℕ) → a < b → leb b at ≡ true → leb a at ≡ true
    offsets a b at l h = grind (arith, nat_tests)
reached_before (ToPosition p) m n l h =
    positions m.position.line m.position.column n.position.line n.position.column p.line p.column l.position h
  where
    positions : (l c m d n f : ℕ) → (ltb m l || (eqb m l && leb d c)) ≡ false →
        (ltb m n || (eqb m n && leb d f)) ≡ true → (ltb l n || (eqb l n && leb c f)) ≡ true
    positions l c m d n f h g = grind (arith, nat_tests)

-- after a mark the next stop is one
pub mark_on : (e : PositionEncoding) (source : List ℕ) (m n : Stop) → IsSample e source m →
    stops_from e source m ≡ n ∷ stops_from e source n → IsWithin source n → Later m n → IsSample e source n
mark_on e source m n mark next within l =
    record {
      within = within;
      last = λ target h.
          sym (last_on (is_reached target) m n (stops_from e source m) (stops_from e source n) next h)
          ∙ mark.last target (reached_before target m n l h);
      first = λ at h.
          sym (first_on (λ s. leb at s.offset) m n (stops_from e source m) (stops_from e source n) next
          (not_yet m.offset n.offset at l.offset h)) ∙ mark.first at (omega (arith, l.offset, h));
    }
  where
    not_yet : (a b at : ℕ) → a < b → b ≤ at → leb at a ≡ false
    not_yet a b at l h = grind (arith, nat_tests)
