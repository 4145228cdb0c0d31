-- The five pieces that are put one behind the other are the header. Assumes nothing.
use Prim.Native.Nat.{ℕ, ◌+◌, ◌≤◌}
use mathlib.Core.Path.{◌≡◌, refl, sym, ◌∙◌, ap, ap₂}
use mathlib.Core.List.{List, [], ◌∷◌, ◌++◌, append_assoc}
use native.Mathlib.Omega.{arith}
use lib.ListN.{length, length-append}
use Rattle.pixels.specs.declared.Dimensions.{Dimensions}
use Rattle.pam_put.specs.Put.{put_at}
use Rattle.pam_put.proofs.Putting.{put_on, put_all}
use Rattle.pam_decimal.specs.Decimal.{decimal_of}
use Rattle.pam_decimal.proofs.Decimals.{some_digits}
use Rattle.pam_heading.specs.Heading.{heading}

-- what stands before, between and after the sides
abbrev before : List ℕ
before = 80 ∷ 55 ∷ 10 ∷ 87 ∷ 73 ∷ 68 ∷ 84 ∷ 72 ∷ 32 ∷ []

abbrev between : List ℕ
between = 10 ∷ 72 ∷ 69 ∷ 73 ∷ 71 ∷ 72 ∷ 84 ∷ 32 ∷ []

abbrev after : List ℕ
after =
    10 ∷ 68 ∷ 69 ∷ 80 ∷ 84 ∷ 72 ∷ 32 ∷ 52
    ∷ 10 ∷ 77 ∷ 65 ∷ 88 ∷ 86 ∷ 65 ∷ 76 ∷ 32 ∷ 50 ∷ 53 ∷ 53
    ∷ 10 ∷ 84 ∷ 85 ∷ 80 ∷ 76 ∷ 84 ∷ 89 ∷ 80 ∷ 69 ∷ 32 ∷ 82 ∷ 71 ∷ 66 ∷ 95 ∷ 65 ∷ 76 ∷ 80 ∷ 72 ∷ 65
    ∷ 10 ∷ 69 ∷ 78 ∷ 68 ∷ 72 ∷ 68 ∷ 82 ∷ 10 ∷ []

module _ (size : Dimensions) where
  abbrev w : List ℕ
  w = decimal_of size.width

  abbrev h : List ℕ
  h = decimal_of size.height

  pieces : heading size ≡ before ++ (w ++ (between ++ (h ++ after)))
  unfolding heading
  pieces = refl

  pub heading_length : length (heading size) ≡ 63 + length w + length h
  heading_length = ap length pieces ∙ simp length-append (omega arith)

  pub heading_most : length (heading size) ≤ 73
  heading_most = omega (arith, heading_length, (some_digits size.width).1, (some_digits size.height).1)

  joined : (((before ++ w) ++ between) ++ h) ++ after ≡ heading size
  joined =
      append_assoc ((before ++ w) ++ between) h after
      ∙ append_assoc (before ++ w) between (h ++ after)
      ∙ append_assoc before w (between ++ (h ++ after))
      ∙ sym pieces

  pub all_put :
      (o o1 o2 o3 o4 o5 : List ℕ) (a b : ℕ) → length o ≡ length (heading size) → o1 ≡ put_at o 0 before → o2 ≡ put_at o1 9 w → a ≡ 9 + length w → o3 ≡ put_at o2 a between → o4 ≡ put_at o3 (a + 8) h
      → b ≡ a + 8 + length h → o5 ≡ put_at o4 b after → o5 ≡ heading size
  all_put o o1 o2 o3 o4 o5 a b long e1 e2 ea e3 e4 eb e5 =
      let l1 = length-append before w in
      let l2 = length-append (before ++ w) between in
      let l3 = length-append ((before ++ w) ++ between) h in
      let long' : length o ≡ 63 + length w + length h = long ∙ heading_length in
      let s2 : o2 ≡ put_at o 0 (before ++ w) = e2 ∙ ap (λ (x : List ℕ). put_at x 9 w) e1 ∙ put_on o 0 before w (omega (arith, long')) in
      let at3 : a ≡ 0 + length (before ++ w) = omega (arith, ea, l1) in
      let s3 : o3 ≡ put_at o 0 ((before ++ w) ++ between) = e3 ∙ ap₂ (λ (x : List ℕ) (k : ℕ). put_at x k between) s2 at3 ∙ put_on o 0 (before ++ w) between (omega (arith, long', l1)) in
      let at4 : a + 8 ≡ 0 + length ((before ++ w) ++ between) = omega (arith, at3, l2) in
      let s4 : o4 ≡ put_at o 0 (((before ++ w) ++ between) ++ h) = e4 ∙ ap₂ (λ (x : List ℕ) (k : ℕ). put_at x k h) s3 at4 ∙ put_on o 0 ((before ++ w) ++ between) h (omega (arith, long', l1, l2)) in
      let at5 : b ≡ 0 + length (((before ++ w) ++ between) ++ h) = omega (arith, eb, at4, l3) in
      let s5 : o5 ≡ put_at o 0 ((((before ++ w) ++ between) ++ h) ++ after) = e5 ∙ ap₂ (λ (x : List ℕ) (k : ℕ). put_at x k after) s4 at5 ∙ put_on o 0 (((before ++ w) ++ between) ++ h) after (omega (arith, long', l1, l2, l3)) in
      s5 ∙ ap (put_at o 0) joined ∙ put_all o (heading size) (sym long)
