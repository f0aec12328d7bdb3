-- What `fill` appends, without its colours.
use Rattle.std.proofs.Common.{◌≡◌, ℕ, List, ◌++◌, ap, ◌∙◌, encode_utf8_all, Result, Ok, Err, OnOk}
use Rattle.miette_runs.specs.rules.Sequences.{erase}
use Rattle.miette_text.specs.rules.ColouredTexts.{AppendsErasing, AreColoured, plain_plan}
use Rattle.miette_text.specs.rules.Wrapping.{WrapPlan, wrapped_text}
use Rattle.miette_text.proofs.Encoding.{erase-encode}
use Rattle.miette_text.proofs.FilledColours.{erase-coloured}

pub appends_erasing : (p : WrapPlan (List ℕ)) (text old new : List ℕ) → new ≡ old
    ++ encode_utf8_all (wrapped_text p text)
    → AreColoured p text → AppendsErasing old new (encode_utf8_all (wrapped_text (plain_plan p) (erase text)))
appends_erasing p text old new e h = (
  encode_utf8_all (wrapped_text p text),
  e,
  erase-encode (wrapped_text p text) ∙ ap encode_utf8_all (erase-coloured p text h),
)

pub appends_on_ok : {T E : Type 0} (r : Result T E) (p : WrapPlan (List ℕ)) (text old new : List ℕ)
    → OnOk r (new ≡ old ++ encode_utf8_all (wrapped_text p text))
    → OnOk r (AreColoured p text → AppendsErasing old new (encode_utf8_all (wrapped_text (plain_plan p) (erase text))))
appends_on_ok (Ok x) p text old new h = appends_erasing p text old new h
appends_on_ok (Err e) p text old new h = h
