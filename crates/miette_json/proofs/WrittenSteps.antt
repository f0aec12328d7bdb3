-- Steps of a writer, one after the other, and the items of lists.
use Rattle.std.proofs.Common.{◌≡◌, sym, ap, ◌∙◌}
use Rattle.miette_json.specs.rules.Json.{Json, array, Items, no_items, item}
use Rattle.miette_json.specs.rules.Writing.{JsonPrefix, opened, closed, with_items, with_value}

-- ---- one step after the other

pub two_steps : (f g : JsonPrefix → JsonPrefix) (old one new : JsonPrefix) → one ≡ f old → new ≡ g one → new ≡ g (f old)
two_steps f g old one new d e = e ∙ ap g d

pub three_steps : (f g h : JsonPrefix → JsonPrefix) (old one two new : JsonPrefix) → one ≡ f old → two ≡ g one
    → new ≡ h two → new ≡ h (g (f old))
three_steps f g h old one two new d e i = i ∙ ap h (two_steps f g old one two d e)

pub four_steps : (f g h k : JsonPrefix → JsonPrefix) (old one two three new : JsonPrefix) → one ≡ f old → two ≡ g one
    → three ≡ h two → new ≡ k three → new ≡ k (h (g (f old)))
four_steps f g h k old one two three new d e i j = j ∙ ap k (three_steps f g h old one two three d e i)

pub five_steps : (f g h k l : JsonPrefix → JsonPrefix) (old one two three four new : JsonPrefix) → one ≡ f old
    → two ≡ g one → three ≡ h two → four ≡ k three → new ≡ l four → new ≡ l (k (h (g (f old))))
five_steps f g h k l old one two three four new d e i j m =
    m ∙ ap l (four_steps f g h k old one two three four d e i j)

pub six_steps : (f g h k l m : JsonPrefix → JsonPrefix) (old a b c d e new : JsonPrefix) → a ≡ f old → b ≡ g a
    → c ≡ h b → d ≡ k c → e ≡ l d → new ≡ m e → new ≡ m (l (k (h (g (f old)))))
six_steps f g h k l m old a b c d e new p q r s t u =
    u ∙ ap m (five_steps f g h k l old a b c d e p q r s t)

pub seven_steps : (f g h k l m n : JsonPrefix → JsonPrefix) (old a b c d e i new : JsonPrefix) → a ≡ f old → b ≡ g a
    → c ≡ h b → d ≡ k c → e ≡ l d → i ≡ m e → new ≡ n i → new ≡ n (m (l (k (h (g (f old))))))
seven_steps f g h k l m n old a b c d e i new p q r s t u v =
    v ∙ ap n (six_steps f g h k l m old a b c d e i p q r s t u)

pub eight_steps : (f g h k l m n o : JsonPrefix → JsonPrefix) (old a b c d e i j new : JsonPrefix) → a ≡ f old
    → b ≡ g a → c ≡ h b → d ≡ k c → e ≡ l d → i ≡ m e → j ≡ n i → new ≡ o j
    → new ≡ o (n (m (l (k (h (g (f old)))))))
eight_steps f g h k l m n o old a b c d e i j new p q r s t u v w =
    w ∙ ap o (seven_steps f g h k l m n old a b c d e i j p q r s t u v)

-- ---- items of lists

-- one more item is written
pub item_put : (is js : Items) (v : Json) (now new all : JsonPrefix) → is ≡ item v js → new ≡ with_value v now
    → with_items is now ≡ all → with_items js new ≡ all
item_put is js v now new all next e h =
    ap (with_items js) e ∙ sym (ap (λ i. with_items i now) next) ∙ h

-- all items are written
pub items_end : (left is : Items) (start now : JsonPrefix) → left ≡ no_items → with_items left now ≡ with_items is start
    → now ≡ with_items is start
items_end left is start now none h = sym (ap (λ i. with_items i now) none) ∙ h

-- and the list is closed
pub list_put : (left is : Items) (old now new : JsonPrefix) → left ≡ no_items
    → with_items left now ≡ with_items is (opened 91 old) → new ≡ closed 93 now → new ≡ with_value (array is) old
list_put left is old now new none h e = e ∙ ap (closed 93) (items_end left is (opened 91 old) now none h)
