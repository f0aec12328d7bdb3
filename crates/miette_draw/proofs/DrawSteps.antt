-- Steps of writing the picture that `draw` is asked for.
use Rattle.std.proofs.Common.{◌≡◌, ℕ, List, Option, Some, None, ◌↔◌, IfSome, subst}
use Rattle.miette_draw.specs.rules.Pictures.{IsPicture}
use Rattle.miette_draw.specs.views.DrawReports.{draw_tree_of, CallPictures, Pictures}
use Rattle.miette_draw.specs.rules.Words.{AreDrawWords, DrawRequest, IsNoDrawCall}

-- what was written of the picture, for what the reader tells
pub told : (request : DrawRequest) (input : List ℕ) (all : Option (List ℕ)) (text bytes : List ℕ) (P : List ℕ → Type 0)
    → IfSome all (λ bs. input ≡ bs) → IsPicture None (draw_tree_of request input) text → bytes ≡ text → P bytes
    → IfSome all (λ bs. Pictures request bs P)
told request input None text bytes P read is same p = tt
told request input (Some bs) text bytes P read is same p =
    (text, subst (λ i. IsPicture None (draw_tree_of request i) text) read is, subst P same p)

-- ---- the words as the program is called with them

pub call_pictured : (words : List (List ℕ)) (request : DrawRequest) (all : Option (List ℕ)) (P : List ℕ → Type 0)
    → AreDrawWords words request → IfSome all (λ bs. Pictures request bs P) → IfSome all (λ bs. CallPictures words bs P)
call_pictured words request None P are h = tt
call_pictured words request (Some bs) P are h = (request, are, h)

pub draw_called : (Q : Type 0) (words : List (List ℕ)) (request : DrawRequest) → AreDrawWords words request → (Q → ⊥)
    → Q ↔ IsNoDrawCall words
draw_called Q words request are called = (λ q. absurd (called q), λ none. absurd (none request are))
