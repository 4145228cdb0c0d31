-- The work rows, place by place: what stands in each half after a crop row came in and after an output row went out, and that the length and all
-- beyond the two halves stay. Each is a table written over the beginning of a list, or behind its first w values. Assumes nothing.
use Prim.Native.Nat.{ℕ, suc, ◌+◌, ◌%◌, ◌≤◌, ◌<◌}
use mathlib.Core.Path.{◌≡◌, refl, sym, ◌∙◌, ap}
use mathlib.Core.Logic.{◌⊎◌, inl, inr}
use mathlib.Core.Bool.{cond}
use mathlib.Core.List.{List, ◌++◌}
use native.Mathlib.Omega.{arith}
use native.Mathlib.Nat.{zero-add}
use lib.Dec.{eqb}
use lib.ListN.{length, get_or, take, drop, length-append, length-drop, get_or-append}
use lib.Seq.{get_or-append-add, get_or-take, length-take-le, drop-drop, drop_at}
use borrow.Author.Tests.{le-leb, lt-leb, eq-eqb, ne_eqb}
use Rattle.arithmetic.specs.Word.{wrap_add}
use Rattle.arithmetic.proofs.Orders.{le_or_lt}
use Rattle.arithmetic.proofs.Tables.{get_d_table, drop_table}
use Rattle.rows.specs.Output.{rest_down, share, ratio, left_down}
use Rattle.rows.specs.WorkRows.{Scale, written, added, row_in, half_of, row_left}
use Rattle.rows.proofs.Lanes.{written_length, written_beyond}

-- ---- a table over the first w values
module _ (w : ℕ) (f : ℕ → ℕ) (s : List ℕ) where
  written_at : (x : ℕ) → x < w → get_or (written w f s) x 0 ≡ f x
  written_at x l = get_d_table f w (drop w s) x l

  written_rest : (n : ℕ) → drop (w + n) (written w f s) ≡ drop (w + n) s
  written_rest n = sym (drop-drop n w (written w f s)) ∙ ap (drop n) (drop_table f w (drop w s)) ∙ drop-drop n w s

-- ---- a table over the w values behind the first w
abbrev behind : ℕ → (ℕ → ℕ) → List ℕ → List ℕ
behind w f s = take w s ++ written w f (drop w s)

module _ (w : ℕ) (f : ℕ → ℕ) (s : List ℕ) (long : w + w ≤ length s) where
  head : length (take w s) ≡ w
  head = length-take-le w s (omega arith)

  behind_first : (x : ℕ) → x < w → get_or (behind w f s) x 0 ≡ get_or s x 0
  behind_first x l = get_or-append (take w s) (written w f (drop w s)) 0 x (rw head l) ∙ get_or-take w s x 0 l

  past : (x : ℕ) → get_or (behind w f s) (w + x) 0 ≡ get_or (written w f (drop w s)) x 0
  past x = ap (λ (k : ℕ). get_or (behind w f s) (k + x) 0) (sym head) ∙ get_or-append-add (take w s) (written w f (drop w s)) x 0

  behind_second : (x : ℕ) → x < w → get_or (behind w f s) (w + x) 0 ≡ f x
  behind_second x l = past x ∙ written_at w f (drop w s) x l

  behind_length : length (behind w f s) ≡ length s
  behind_length =
      length-append (take w s) (written w f (drop w s))
      ∙ omega (arith, head, length-drop w s, written_length w f (drop w s) (omega (arith, length-drop w s)))

  behind_rest : drop (w + w) (behind w f s) ≡ drop (w + w) s
  behind_rest =
      sym (drop-drop w w (behind w f s)) ∙ ap (drop w) (drop_at (take w s) (written w f (drop w s)) w head)
      ∙ drop_table f w (drop w (drop w s)) ∙ drop-drop w w s

-- ---- which half a crop row goes to
pub parity : (c : ℕ) → (c % 2 ≡ 0) ⊎ (c % 2 ≡ 1)
parity c = by (le_or_lt (c % 2) 0)
  where
    by : (c % 2 ≤ 0) ⊎ (0 < c % 2) → (c % 2 ≡ 0) ⊎ (c % 2 ≡ 1)
    by (inl l) = inl (omega arith)
    by (inr l) = inr (omega arith)

pub half_even : (w c : ℕ) → c % 2 ≡ 0 → half_of w c ≡ w
half_even w c e = simp (eq-eqb (c % 2) 0 e)

pub half_odd : (w c : ℕ) → c % 2 ≡ 1 → half_of w c ≡ 0
half_odd w c e = simp (ne_eqb (c % 2) 0 (omega arith))

pub half_two : (w c : ℕ) → half_of w (suc (suc c)) ≡ half_of w c
half_two w c = let e : suc (suc c) % 2 ≡ c % 2 = omega arith in ap (λ (x : ℕ). cond (eqb x 0) w 0) e

pub half_room : (w c : ℕ) → half_of w c ≤ w
half_room w c = by (parity c)
  where
    by : (c % 2 ≡ 0) ⊎ (c % 2 ≡ 1) → half_of w c ≤ w
    by (inl e) = rw (half_even w c e) (omega arith)
    by (inr e) = rw (half_odd w c e) (omega arith)

-- ---- a crop row comes in
module _ (s : Scale) (c : ℕ) (values : ℕ → ℕ) (work : List ℕ) where
  sum_of : ℕ → ℕ
  sum_of x = wrap_add (get_or (behind s.w values work) x 0) (get_or (behind s.w values work) (s.w + x) 0)

  in_down : s.g ≤ s.h → row_in s c values work ≡ written s.w sum_of (behind s.w values work)
  unfolding row_in added sum_of
  in_down l = simp (le-leb s.g s.h l)

  in_even : s.h < s.g → c % 2 ≡ 0 → row_in s c values work ≡ behind s.w values work
  unfolding row_in
  in_even l e = simp (lt-leb s.g s.h l, eq-eqb (c % 2) 0 e)

  in_odd : s.h < s.g → c % 2 ≡ 1 → row_in s c values work ≡ written s.w values work
  unfolding row_in
  in_odd l e = simp (lt-leb s.g s.h l, ne_eqb (c % 2) 0 (omega arith))

module _ (s : Scale) (c : ℕ) (values : ℕ → ℕ) (work : List ℕ) (long : s.w + s.w ≤ length work) where
  -- g ≤ h: added to the first half, and kept in the second
  pub in_first : s.g ≤ s.h → (x : ℕ) → x < s.w → get_or (row_in s c values work) x 0 ≡ wrap_add (get_or work x 0) (values x)
  unfolding sum_of
  in_first m x l =
      rw (in_down s c values work m)
      (written_at s.w (sum_of s c values work) (behind s.w values work) x l
      ∙ rw (behind_first s.w values work long x l, behind_second s.w values work long x l))

  pub in_second : s.g ≤ s.h → (x : ℕ) → x < s.w → get_or (row_in s c values work) (s.w + x) 0 ≡ values x
  in_second m x l =
      rw (in_down s c values work m)
      (written_beyond s.w (sum_of s c values work) (behind s.w values work) x ∙ behind_second s.w values work long x l)

  -- g > h: in its own half, and the other stays
  pub in_own : s.h < s.g → (x : ℕ) → x < s.w → get_or (row_in s c values work) (half_of s.w c + x) 0 ≡ values x
  in_own m x l = by (parity c)
    where
      by : (c % 2 ≡ 0) ⊎ (c % 2 ≡ 1) → get_or (row_in s c values work) (half_of s.w c + x) 0 ≡ values x
      by (inl e) = rw (half_even s.w c e, in_even s c values work m e) (behind_second s.w values work long x l)
      by (inr e) = rw (half_odd s.w c e, zero-add x, in_odd s c values work m e) (written_at s.w values work x l)

  pub in_other : s.h < s.g → (x : ℕ) → x < s.w → get_or (row_in s c values work) (half_of s.w (suc c) + x) 0 ≡ get_or work (half_of s.w (suc c) + x) 0
  in_other m x l = by (parity c)
    where
      by : (c % 2 ≡ 0) ⊎ (c % 2 ≡ 1) → get_or (row_in s c values work) (half_of s.w (suc c) + x) 0 ≡ get_or work (half_of s.w (suc c) + x) 0
      by (inl e) = rw (half_odd s.w (suc c) (omega arith), zero-add x, in_even s c values work m e) (behind_first s.w values work long x l)
      by (inr e) = rw (half_even s.w (suc c) (omega arith), in_odd s c values work m e) (written_beyond s.w values work x)

  pub row_in_length : length (row_in s c values work) ≡ length work
  row_in_length = by (le_or_lt s.g s.h) (parity c)
    where
      by : (s.g ≤ s.h) ⊎ (s.h < s.g) → (c % 2 ≡ 0) ⊎ (c % 2 ≡ 1) → length (row_in s c values work) ≡ length work
      by (inl m) e =
          let b = behind_length s.w values work long in
          rw (in_down s c values work m) (written_length s.w (sum_of s c values work) (behind s.w values work) (omega arith) ∙ b)
      by (inr m) (inl e) = rw (in_even s c values work m e) (behind_length s.w values work long)
      by (inr m) (inr e) = rw (in_odd s c values work m e) (written_length s.w values work (omega arith))

  -- "the rest is untouched"
  pub row_in_rest : drop (s.w + s.w) (row_in s c values work) ≡ drop (s.w + s.w) work
  row_in_rest = by (le_or_lt s.g s.h) (parity c)
    where
      by : (s.g ≤ s.h) ⊎ (s.h < s.g) → (c % 2 ≡ 0) ⊎ (c % 2 ≡ 1) → drop (s.w + s.w) (row_in s c values work) ≡ drop (s.w + s.w) work
      by (inl m) e =
          rw (in_down s c values work m)
          (written_rest s.w (sum_of s c values work) (behind s.w values work) s.w ∙ behind_rest s.w values work long)
      by (inr m) (inl e) = rw (in_even s c values work m e) (behind_rest s.w values work long)
      by (inr m) (inr e) = rw (in_odd s c values work m e) (written_rest s.w values work s.w)

-- ---- an output row goes out
module _ (s : Scale) (u y : ℕ) (work : List ℕ) where
  -- what f leaves in the first half at place x
  abbrev pub left_at : ℕ → ℕ
  left_at x = left_down (ratio s.span s.h s.g) (share s.g (rest_down s.h s.g u y) (get_or work (s.w + x) 0))

  out_down : s.g ≤ s.h → row_left s u y work ≡ written s.w left_at work
  unfolding row_left
  out_down m = simp (le-leb s.g s.h m)

  pub out_up : s.h < s.g → row_left s u y work ≡ work
  unfolding row_left
  out_up m = simp (lt-leb s.g s.h m)

  pub out_first : s.g ≤ s.h → (x : ℕ) → x < s.w → get_or (row_left s u y work) x 0 ≡ left_at x
  out_first m x l = rw (out_down m) (written_at s.w left_at work x l)

  pub out_second : s.g ≤ s.h → (x : ℕ) → get_or (row_left s u y work) (s.w + x) 0 ≡ get_or work (s.w + x) 0
  out_second m x = rw (out_down m) (written_beyond s.w left_at work x)

  pub row_left_length : s.w ≤ length work → length (row_left s u y work) ≡ length work
  row_left_length long = by (le_or_lt s.g s.h)
    where
      by : (s.g ≤ s.h) ⊎ (s.h < s.g) → length (row_left s u y work) ≡ length work
      by (inl m) = rw (out_down m) (written_length s.w left_at work long)
      by (inr m) = rw (out_up m) refl

  -- all but the first half stays, and so all beyond the two halves
  pub row_left_rest : (n : ℕ) → drop (s.w + n) (row_left s u y work) ≡ drop (s.w + n) work
  row_left_rest n = by (le_or_lt s.g s.h)
    where
      by : (s.g ≤ s.h) ⊎ (s.h < s.g) → drop (s.w + n) (row_left s u y work) ≡ drop (s.w + n) work
      by (inl m) = rw (out_down m) (written_rest s.w left_at work n)
      by (inr m) = rw (out_up m) refl
