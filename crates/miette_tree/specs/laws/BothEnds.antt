-- Iterators that are used from both ends.
use Rattle.std.specs.Prelude.{◌≡◌, List, [], ◌∷◌, ◌++◌, Option, Some}

-- an item, and the end that it was taken from
pub data EndItem (A : Type 0) : Type 0 where
  in_front : A → EndItem A
  behind : A → EndItem A

module _ {S A : Type 0} (next next_back : S → Option A → S → Type 0) where
  -- these calls lead from one state to another and yield these items, in the order of the calls
  abbrev pub Gives : S → List (EndItem A) → S → Type 0
  Gives s [] t = s ≡ t
  Gives s (in_front x ∷ more) t = (j : S) × next s (Some x) j × Gives j more t
  Gives s (behind x ∷ more) t = (j : S) × next_back s (Some x) j × Gives j more t

module _ {A B : Type 0} (view : A → B) where
  -- the items taken from the front, in order
  abbrev pub front_of : List (EndItem A) → List B
  front_of [] = []
  front_of (in_front x ∷ more) = view x ∷ front_of more
  front_of (behind x ∷ more) = front_of more

  -- the items taken from the back, the last call's first
  abbrev pub back_of : List (EndItem A) → List B
  back_of [] = []
  back_of (in_front x ∷ more) = back_of more
  back_of (behind x ∷ more) = back_of more ++ view x ∷ []
