use Rattle.std.proofs.Common.{◌≡◌, ◌∙◌, ℕ, List, ap, chars, encode_utf8_all, refl, replicate, sym, true}
use Rattle.std.proofs.Math.Utf8.{scalars}
use Rattle.std.proofs.lemmas.Str.{chars-encodes}
use Rattle.miette_style.proofs.page.run_of.Goals as goal

-- the bytes of copies of a character
of-run : (c k : ℕ) (bs : List ℕ) → c ≡ k → encode_utf8_all (replicate 16 k) ≡ bs → scalars (replicate 16 k) ≡ true
    → chars bs ≡ replicate 16 c
of-run c k bs e f s = ap chars (sym f) ∙ chars-encodes (replicate 16 k) s ∙ ap (replicate 16) (sym e)

pub returns-in-32 : goal.returns-in-32
unfolding lib.Utf8.encode
returns-in-32 c = of-run c.args.character 32 _ c.in-32.is refl refl

pub returns-in-9472 : goal.returns-in-9472
unfolding lib.Utf8.encode
returns-in-9472 c = of-run c.args.character 9472 _ c.in-9472.is refl refl

pub returns-in-45 : goal.returns-in-45
unfolding lib.Utf8.encode
returns-in-45 c = of-run c.args.character 45 _ c.in-45.is refl refl

pub returns-in-94 : goal.returns-in-94
unfolding lib.Utf8.encode
returns-in-94 c = of-run c.args.character 94 _ c.in-94.is refl refl
