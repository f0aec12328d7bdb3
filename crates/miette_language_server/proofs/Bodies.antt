-- The body of a frame.
use Rattle.std.proofs.Common.{◌≡◌, ℕ, ◌<◌, List, [], ◌++◌, true, false, Option, Some, None, refl, sym}
use Rattle.std.proofs.Common.{ap}
use Rattle.std.proofs.Common.{◌∙◌, arith, append-nil, drop, leb, length, length-append, subst, take, Vec}
use Rattle.std.specs.Option.{option_and_then}
use Rattle.std.proofs.lemmas.Bool.Decides.{nat_tests}
use lib.Seq.{take-append_seam, drop-append_seam}
use Rattle.std.specs.declared.alloc.Global.{Global}
use Rattle.std.specs.Io.KnownBytes.{Consumes, IsAtEnd}
use Rattle.miette_language_server.specs.rules.Frames.{Frame, cut}
use Rattle.miette_language_server.specs.views.Answered.{IsBody, IsFirstFrame, IsHeader}

-- what is there ends early
pub too_short : (old mid new : Option (List ℕ)) (body : List ℕ) (n : ℕ) → Consumes old mid body → Consumes mid new []
    → IsAtEnd new → length body < n → IsBody old new n None
too_short None mid new body n c d e lt = tt
too_short (Some xs) None new body n c d e lt = absurd c
too_short (Some xs) (Some ys) None body n c d e lt = absurd d
too_short (Some xs) (Some ys) (Some zs) body n c d e lt =
    let all : xs ≡ body = c ∙ ap (λ l. body ++ l) (d ∙ e) ∙ append-nil body in
    subst (λ (l : List ℕ). length l < n) (sym all) lt

-- what is there is the body
cut_short : (n : ℕ) (bytes : List ℕ) → length bytes < n → cut n bytes ≡ None
cut_short n bytes lt = let f : leb n (length bytes) ≡ false = grind (arith, nat_tests) in rw f refl

pub cut_whole : (body rest : List ℕ) → cut (length body) (body ++ rest) ≡ Some (record { body = body; rest = rest })
cut_whole body rest =
    let t : leb (length body) (length (body ++ rest)) ≡ true = grind (arith, nat_tests, length-append body rest) in
    let front : take (length body) (body ++ rest) ≡ body = take-append_seam body rest in
    let back : drop (length body) (body ++ rest) ≡ rest = drop-append_seam body rest in
    rw (t, front, back) refl

abbrev pub cut_at : ℕ × List ℕ → Option Frame
cut_at it = cut it.0 it.1

pub frame_read : (old mid new : Option (List ℕ)) (n : ℕ) (o : Option (Vec ℕ Global)) → IsHeader old mid (Some n)
    → IsBody mid new n o → IsFirstFrame old new o
frame_read None mid new n o h c = tt
frame_read (Some xs) None new n o h c = absurd h
frame_read (Some xs) (Some ys) new n None h c = ap (option_and_then cut_at) h ∙ cut_short n ys c
frame_read (Some xs) (Some ys) None n (Some body) h c = absurd c.0
frame_read (Some xs) (Some ys) (Some zs) n (Some body) h c =
    ap (option_and_then cut_at) h ∙ ap (λ l. cut n l) c.0 ∙ ap (λ m. cut m (body.items ++ zs)) (sym c.1)
    ∙ cut_whole body.items zs

pub frame_missing : (old new : Option (List ℕ)) → IsHeader old new None → IsFirstFrame old new None
frame_missing None new h = tt
frame_missing (Some xs) new h = ap (option_and_then cut_at) h
