-- What the two halves hold after u crop rows came in and y output rows went out, from zeros (MATHEMATICS 5): both directions of height, all sizes,
-- wrapped sums included. A single value is a word; only the running sum wraps, and it is taken modulo 2^32 on both sides. The byte that goes out is
-- then the closed form's. v c x is the value of crop row c at place x. Assumes nothing.
use Prim.Native.Nat.{ℕ, zero, suc, ◌+◌, ◌-◌, ◌*◌, ◌/◌, ◌^◌, ◌≤◌, ◌<◌}
use mathlib.Core.Path.{◌≡◌, refl, sym, ◌∙◌, ap}
use mathlib.Core.Logic.{◌⊎◌, inl, inr}
use mathlib.Core.List.{List, ◌++◌}
use native.Mathlib.Omega.{arith}
use native.Mathlib.Nat.{div-zero}
use lib.ListN.{length, get_or, replicate, length-append, length-replicate, get_or-replicate, get_or-append}
use borrow.Author.Tests.{le-leb, lt-leb, eq-eqb, ne_eqb}
use Rattle.arithmetic.specs.Word.{wrap_add}
use Rattle.arithmetic.proofs.Orders.{le_or_lt}
use Rattle.arithmetic.proofs.Quotients.{div_low}
use Rattle.arithmetic.proofs.Sums.{sum_zero, sum_suc, sum_none_yet}
use Rattle.rows_schedule.specs.Schedule.{needed, since}
use Rattle.rows_schedule.proofs.Needed.{needed_some, needed_equal}
use Rattle.rows.specs.Output.{rest_down, share, ratio, left_down}
use Rattle.rows.specs.WorkRows.{Scale, row_in, half_of, byte_out, row_left}
use Rattle.rows.specs.Closed.{newest, share_before, first_half, scaled_byte}
use Rattle.rows_laws.proofs.HeightShrinks.{share_le}
use Rattle.rows_laws.proofs.WorkRows.{half_two, half_room, in_first, in_second, in_own, in_other, row_in_length, out_up, out_first, out_second, row_left_length}

-- s.w values in each half
pub record Held (s : Scale) (v : ℕ → ℕ → ℕ) (u y : ℕ) (work : List ℕ) : Type 0 where
  pub long : s.w + s.w ≤ length work
  -- g ≤ h
  pub first : s.g ≤ s.h → (x : ℕ) → x < s.w → get_or work x 0 ≡ first_half s.h s.g (λ c. v c x) y u
  pub second : s.g ≤ s.h → (x : ℕ) → x < s.w → get_or work (s.w + x) 0 ≡ newest (λ c. v c x) u
  -- g > h: crop row u - 1 is in the half that row u + 1 will go to
  pub newer : s.h < s.g → (x : ℕ) → x < s.w → get_or work (half_of s.w (suc u) + x) 0 ≡ newest (λ c. v c x) u
  pub older : s.h < s.g → (x : ℕ) → x < s.w → get_or work (half_of s.w u + x) 0 ≡ newest (λ c. v c x) (u - 1)

-- ---- f is a word, and 0 where q is 2^32
pub newest_word : (v : ℕ → ℕ) → ((c : ℕ) → v c < 2 ^ 32) → (u : ℕ) → newest v u < 2 ^ 32
unfolding newest
newest_word v small zero = omega arith
newest_word v small (suc u) = small u

pub share_none : (g d s : ℕ) → d ≡ 0 → share g d s ≡ 0
unfolding share
share_none g d s e = simp (eq-eqb d 0 e)

-- q is 2^32 only where the heights are equal (and the span is 1)
pub ratio_one : (sp h g : ℕ) → g ≤ h → ratio sp h g ≡ 2 ^ 32 → g ≡ h
unfolding ratio
ratio_one zero h g l e = absurd (let none : zero * h ≡ 0 = omega arith in let z : g * 2 ^ 32 / (zero * h) ≡ 0 = ap (λ (d : ℕ). g * 2 ^ 32 / d) none ∙ div-zero (g * 2 ^ 32) in omega arith)
ratio_one (suc s) h g l e =
    let low : ratio (suc s) h g * (suc s * h) ≤ g * 2 ^ 32 = div_low (g * 2 ^ 32) (suc s * h) in
    let low' : 2 ^ 32 * (suc s * h) ≤ g * 2 ^ 32 = rw e at low in
    omega arith

-- what is left in the first half is f in every case: where q is 2^32, d is 0
pub left_is : (sp h g y s : ℕ) → 0 < g → g ≤ h
    → left_down (ratio sp h g) (share g (rest_down h g (needed h g y) y) s) ≡ share g (rest_down h g (needed h g y) y) s
unfolding left_down
left_is sp h g y s p l = by (same_or (ratio sp h g) (2 ^ 32))
  where
    same_or : (a b : ℕ) → (a ≡ b) ⊎ (a ≡ b → ⊥)
    same_or a b = go (le_or_lt a b) (le_or_lt b a)
      where
        go : (a ≤ b) ⊎ (b < a) → (b ≤ a) ⊎ (a < b) → (a ≡ b) ⊎ (a ≡ b → ⊥)
        go (inl m) (inl n) = inl (omega arith)
        go (inl m) (inr n) = inr (λ e. omega arith)
        go (inr m) n = inr (λ e. omega arith)

    none : g ≡ h → rest_down h g (needed h g y) y ≡ 0
    none e =
        let n : needed h g y ≡ suc y = ap (λ (t : ℕ). needed h t y) e ∙ needed_equal h y (omega arith) in
        rw (n, e) (omega arith)

    by : (ratio sp h g ≡ 2 ^ 32) ⊎ (ratio sp h g ≡ 2 ^ 32 → ⊥)
        → left_down (ratio sp h g) (share g (rest_down h g (needed h g y) y) s) ≡ share g (rest_down h g (needed h g y) y) s
    by (inl e) =
        let f : share g (rest_down h g (needed h g y) y) s ≡ 0 = share_none g (rest_down h g (needed h g y) y) s (none (ratio_one sp h g l e)) in
        simp (eq-eqb (ratio sp h g) (2 ^ 32) e) (sym f)
    by (inr e) = simp (ne_eqb (ratio sp h g) (2 ^ 32) e)

-- ---- the closed form of the first half: zeros, a crop row comes in, an output row goes out
module _ (h g : ℕ) (v : ℕ → ℕ) where
  pub first_half_start : first_half h g v 0 0 ≡ 0
  unfolding first_half share_before since
  first_half_start = let none = sum_zero v 0 in rw none refl

  pub first_in : (y u : ℕ) → since h g y ≤ u → wrap_add (first_half h g v y u) (v u) ≡ first_half h g v y (suc u)
  unfolding first_half
  first_in y u le =
      let more : suc u - since h g y ≡ suc (u - since h g y) = omega arith in
      let at : v (since h g y + (u - since h g y)) ≡ v u = ap v (omega arith) in
      rw more (omega (arith, sum_suc v (since h g y) (u - since h g y)))

  pub first_out : ((c : ℕ) → v c < 2 ^ 32) → (y : ℕ) → first_half h g v (suc y) (needed h g y) ≡ share_before h g v (suc y)
  unfolding first_half share_before since
  first_out small y =
      let word = newest_word v small (needed h g y) in
      let less = share_le g (rest_down h g (needed h g y) y) (newest v (needed h g y)) in
      omega (arith, sum_none_yet v (needed h g y))

-- ---- the two halves
module _ (s : Scale) (v : ℕ → ℕ → ℕ) where
  -- all zeros, as start leaves them
  pub held_zeros : (work : List ℕ) → s.w + s.w ≤ length work → ((i : ℕ) → i < s.w + s.w → get_or work i 0 ≡ 0) → Held s v 0 0 work
  unfolding newest
  held_zeros work room zeros = record {
    long = room;
    first = λ m x l. zeros x (omega arith) ∙ sym (first_half_start s.h s.g (λ c. v c x));
    second = λ m x l. zeros (s.w + x) (omega arith);
    newer = λ m x l. zeros (half_of s.w 1 + x) (omega arith);
    older = λ m x l. zeros (half_of s.w 0 + x) (omega arith);
  }

  pub held_start : (rest : List ℕ) → Held s v 0 0 (replicate (s.w + s.w) 0 ++ rest)
  held_start rest =
      held_zeros (replicate (s.w + s.w) 0 ++ rest)
      (omega (arith, length-append (replicate (s.w + s.w) 0) rest, length-replicate {A = ℕ} (s.w + s.w) 0))
      (λ i l. get_or-append (replicate (s.w + s.w) 0) rest 0 i (rw length-replicate l) ∙ get_or-replicate (s.w + s.w) i 0 0 l)

  -- only the two halves count
  pub held_same : (u y : ℕ) (a b : List ℕ) → s.w + s.w ≤ length b → ((i : ℕ) → i < s.w + s.w → get_or b i 0 ≡ get_or a i 0)
      → Held s v u y a → Held s v u y b
  held_same u y a b room same held = record {
    long = room;
    first = λ m x l. same x (omega arith) ∙ held.first m x l;
    second = λ m x l. same (s.w + x) (omega arith) ∙ held.second m x l;
    newer = λ m x l. same (half_of s.w (suc u) + x) (omega (arith, half_room s.w (suc u))) ∙ held.newer m x l;
    older = λ m x l. same (half_of s.w u + x) (omega (arith, half_room s.w u)) ∙ held.older m x l;
  }

  -- crop row u comes in
  pub held_in : (u y : ℕ) (values : ℕ → ℕ) (work : List ℕ) → since s.h s.g y ≤ u → ((x : ℕ) → x < s.w → values x ≡ v u x)
      → Held s v u y work → Held s v (suc u) y (row_in s u values work)
  unfolding newest
  held_in u y values work le same held =
      let room = held.long in
      record {
        long = rw (row_in_length s u values work room) room;
        first = λ m x l.
            in_first s u values work room m x l
            ∙ rw (held.first m x l, same x l) (first_in s.h s.g (λ c. v c x) y u le);
        second = λ m x l. in_second s u values work room m x l ∙ same x l;
        newer = λ m x l. rw (half_two s.w u) (in_own s u values work room m x l ∙ same x l);
        older = λ m x l.
            let z : u ≡ suc u - 1 = omega arith in
            in_other s u values work room m x l ∙ held.newer m x l ∙ ap (newest (λ c. v c x)) z;
      }

  -- output row y goes out, the last crop row that it needs being the newest
  module _ (u y : ℕ) (work : List ℕ) (ph : 0 < s.h) (pg : 0 < s.g) (e : needed s.h s.g y ≡ u) (held : Held s v u y work) where
    pub held_byte : (x : ℕ) → x < s.w → byte_out s u y work x ≡ scaled_byte s.span s.h s.g (λ c. v c x) y
    unfolding byte_out scaled_byte share_before
    held_byte x l = by (le_or_lt s.g s.h)
      where
        back : half_of s.w (u - 1) ≡ half_of s.w (suc u)
        back = let some : 0 < needed s.h s.g y = needed_some s.h s.g y ph pg in let z : suc (suc (u - 1)) ≡ suc u = omega arith in sym (half_two s.w (u - 1)) ∙ ap (half_of s.w) z

        by : (s.g ≤ s.h) ⊎ (s.h < s.g) → byte_out s u y work x ≡ scaled_byte s.span s.h s.g (λ c. v c x) y
        by (inl m) = simp (le-leb s.g s.h m, e, held.first m x l, held.second m x l)
        by (inr m) = rw back (simp (lt-leb s.g s.h m, e, held.newer m x l, held.older m x l))

    pub held_out : ((c x : ℕ) → x < s.w → v c x < 2 ^ 32) → Held s v u (suc y) (row_left s u y work)
    unfolding share_before
    held_out small = record {
      long = rw (row_left_length s u y work (omega (arith, held.long))) held.long;
      first = λ m x l.
          out_first s u y work m x l
          ∙ rw (held.second m x l, ← e)
          (left_is s.span s.h s.g y (newest (λ c. v c x) (needed s.h s.g y)) pg m ∙ sym (first_out s.h s.g (λ c. v c x) (λ c. small c x l) y));
      second = λ m x l. out_second s u y work m x ∙ held.second m x l;
      newer = λ m x l. rw (out_up s u y work m) (held.newer m x l);
      older = λ m x l. rw (out_up s u y work m) (held.older m x l);
    }
