-- Texts put one behind the other are one text put; one as long as the buffer is the buffer. Assumes nothing.
use Prim.Native.Nat.{ℕ, ◌+◌, ◌≤◌, ◌<◌}
use mathlib.Core.Path.{◌≡◌, sym, ◌∙◌, ap, ap₂}
use mathlib.Core.List.{List, ◌++◌, append-nil, append_assoc}
use native.Mathlib.Omega.{arith}
use lib.ListN.{length, take, drop, length-append, length-drop, drop_of_length-le}
use borrow.Rule.Slice.PartMut.{put_mid}
use lib.Seq.{take_at, drop_at, drop-drop, length-take-le}
use borrow.Author.Tests.{le-leb, lt-leb}
use Rattle.pam_put.specs.Put.{put_at}

module _ (out : List ℕ) (place : ℕ) (text : List ℕ) where
  pub put_fits : place + length text ≤ length out → put_at out place text ≡ take place out ++ (text ++ drop (place + length text) out)
  unfolding put_at
  put_fits h = simp (le-leb (place + length text) (length out) h)

  pub put_not : length out < place + length text → put_at out place text ≡ out
  unfolding put_at
  put_not h = simp (lt-leb (place + length text) (length out) h)

  pub put_length : place + length text ≤ length out → length (put_at out place text) ≡ length out
  put_length h =
      let front = length-take-le place out (omega (arith, h)) in
      ap length (put_fits h) ∙ simp (length-append, length-drop, front) (omega (arith, h))

-- as the library has it where it copies: the part of the buffer written over
module _ (out : List ℕ) (place : ℕ) (text : List ℕ) (k : ℕ) where
  pub put_mid_is : place + length text ≤ length out → k ≡ length text → put_mid place k out text ≡ put_at out place text
  put_mid_is h e =
      ap (λ (l : List ℕ). take place out ++ (text ++ l)) (drop-drop k place out ∙ ap (λ (j : ℕ). drop (place + j) out) e) ∙ sym (put_fits out place text h)

-- the next text, put where this one ends
module _ (out : List ℕ) (place : ℕ) (text more : List ℕ) (h : place + length text + length more ≤ length out) where
  abbrev n : ℕ
  n = place + length text

  abbrev m : ℕ
  m = length more

  abbrev once : List ℕ
  once = put_at out place text

  here : place + length text ≤ length out
  here = omega (arith, h)

  front : length (take place out ++ text) ≡ n
  front = length-append (take place out) text ∙ ap (λ (k : ℕ). k + length text) (length-take-le place out (omega (arith, h)))

  is : once ≡ (take place out ++ text) ++ drop n out
  is = put_fits out place text here ∙ sym (append_assoc (take place out) text (drop n out))

  first : take n once ≡ take place out ++ text
  first = ap (take n) is ∙ take_at (take place out ++ text) (drop n out) n front

  last : drop (n + m) once ≡ drop (n + m) out
  last =
      sym (drop-drop m n once) ∙ ap (drop m) (ap (drop n) is ∙ drop_at (take place out ++ text) (drop n out) n front) ∙ drop-drop m n out

  both : place + length (text ++ more) ≡ n + m
  both = omega (arith, length-append text more)

  together : put_at out place (text ++ more) ≡ take place out ++ ((text ++ more) ++ drop (n + m) out)
  together =
      put_fits out place (text ++ more) (omega (arith, h, both)) ∙ ap (λ (k : ℕ). take place out ++ ((text ++ more) ++ drop k out)) both

  pub put_on : put_at once n more ≡ put_at out place (text ++ more)
  put_on =
      put_fits once n more (omega (arith, h, put_length out place text here))
      ∙ ap₂ (λ (a b : List ℕ). a ++ (more ++ b)) first last
      ∙ append_assoc (take place out) text (more ++ drop (n + m) out)
      ∙ ap (λ (l : List ℕ). take place out ++ l) (sym (append_assoc text more (drop (n + m) out)))
      ∙ sym together

pub put_all : (out text : List ℕ) → length text ≡ length out → put_at out 0 text ≡ text
put_all out text e =
    put_fits out 0 text (omega (arith, e)) ∙ ap (λ (l : List ℕ). text ++ l) (drop_of_length-le out {i = 0 + length text} (omega (arith, e))) ∙ append-nil text
