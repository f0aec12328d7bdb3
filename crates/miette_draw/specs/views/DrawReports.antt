-- The report of `draw`.
use Rattle.std.specs.Prelude.{ℕ, List, [], ◌∷◌, Option, Some, None, false}
use Rattle.miette_protocol.specs.views.Diagnostic.{message_alone}
use Rattle.miette_protocol.specs.views.Meaning.{Label, Meaning}
use Rattle.miette_tree.specs.rules.Tree.{Tree}
use Rattle.miette_draw.specs.rules.Pictures.{over_input, IsPicture}
use Rattle.miette_draw.specs.rules.Words.{AreDrawWords, DrawRequest}
use Rattle.miette_draw.specs.declared.draw.DrawArguments.{DrawArguments}

-- the arguments, as the code reads them
abbrev pub draw_request : DrawArguments → DrawRequest
draw_request words = record {
  name = words.name.now;
  offset = words.offset;
  length = words.length;
  label = words.label.now;
  message = words.message.now;
}

-- a label; it has no text if the argument is empty
abbrev pub label_text : List ℕ → Option (List ℕ)
label_text [] = None
label_text (b ∷ bs) = Some (b ∷ bs)

abbrev pub draw_label_of : ℕ → ℕ → List ℕ → Label
draw_label_of offset length text = record {
  text = label_text text;
  span = record { offset = offset; len = length };
  primary = false;
  context = None;
}

-- the message with one label
abbrev pub draw_meaning_of : DrawRequest → Meaning
draw_meaning_of request = record (message_alone request.message)
    { labels = Some (draw_label_of request.offset request.length request.label ∷ []) }

abbrev pub draw_tree_of : DrawRequest → List ℕ → Tree
draw_tree_of request input = over_input request.name (draw_meaning_of request) input

-- A property of the graphical report for these arguments and this input.
abbrev pub Pictures : DrawRequest → List ℕ → (List ℕ → Type 0) → Type 0
Pictures request input holds = (text : List ℕ) × IsPicture None (draw_tree_of request input) text × holds text

-- The same, by the arguments as the program gets them.
abbrev pub CallPictures : List (List ℕ) → List ℕ → (List ℕ → Type 0) → Type 0
CallPictures words input holds =
    (request : DrawRequest) × AreDrawWords words request × Pictures request input holds
