-- The factors of an output row, found once: f, the byte and the blend of Output are products with them, whatever the work values are. Assumes nothing.
use Rattle.std.proofs.Common.{◌≡◌, ℕ, zero, suc, ◌+◌, ◌-◌, ◌*◌, ◌/◌, ◌%◌, ◌^◌, ◌<◌, ◌≤◌, Bool, true, false, cond, eqb, ltb, List, ◌++◌, get_or, drop, sym, refl, ap, ◌∙◌, ap₂, le_refl, mul-le-mul_right, mul-le-mul_left, add-one, arith, ltb-true, eq-eqb, ne_eqb, eqb-true, le-leb}
use native.Mathlib.Nat.{zero-div}
use borrow.Author.Tests.{lt-leb}
use Rattle.arithmetic.specs.Word.{wrap_mul}
use Rattle.arithmetic.specs.FixedPoint.{mult, floor, frac}
use Rattle.arithmetic.specs.Table.{tabulate}
use Rattle.arithmetic.proofs.Tables.{tabulate_cong}
use Rattle.arithmetic.proofs.Quotients.{div_bound}
use Rattle.arithmetic.proofs.FixedPoints.{frac_exact, frac_word}
use Rattle.rows.specs.Output.{clamp, rest_down, share, ratio, byte_down, left_down, rest_up, mixed, blend, byte_up}
use Rattle.rows.specs.WorkRows.{Scale, half_of, byte_out, row_left}
use Rattle.rows.proofs.Outputs.{share_is}
use Rattle.rows_scaling.specs.Inner.Scaling.{RoomAsks, GrowAsks, shrink_left, shrink_byte, low_byte, factor_up, grow_byte}

-- ---- two words weighed by 2^32 in all
pub blend_most : (a b : ℕ) {x y : ℕ} → a + b ≡ 2 ^ 32 → x < 2 ^ 32 → y < 2 ^ 32 → a * x + b * y ≤ 2 ^ 32 * 0xffff_ffff
blend_most a b {x} {y} e hx hy =
    let p : x ≤ 0xffff_ffff = omega arith in
    let q : y ≤ 0xffff_ffff = omega arith in
    omega (arith, mul-le-mul_left a p, mul-le-mul_left b q)

pub mixed_is : (a b x y : ℕ) → a + b ≡ 2 ^ 32 → (a * x + b * y + 2 ^ 31) / 2 ^ 32 ≡ mixed b x y
unfolding mixed
mixed_is a b x y e = ap (λ (t : ℕ). (t * x + b * y + 2 ^ 31) / 2 ^ 32) (omega arith)

mixed_word : (b : ℕ) {x y : ℕ} → b < 2 ^ 32 → x < 2 ^ 32 → y < 2 ^ 32 → mixed b x y < 2 ^ 32
unfolding mixed
mixed_word b hb hx hy = omega (arith, blend_most (2 ^ 32 - b) b (omega arith) hx hy)

-- none of the older row
pub mixed_none : (x y : ℕ) → mixed 0 x y ≡ x
unfolding mixed
mixed_none x y = omega arith

none_older : (factor : ℕ) (work : List ℕ) (new old x : ℕ) → grow_byte 0 factor work new new x ≡ grow_byte 0 factor work new old x
unfolding grow_byte
none_older factor work new old x =
    let n : ℕ = get_or work (new + x) 0 in
    ap (λ (t : ℕ). clamp (mult t factor)) (mixed_none n n ∙ sym (mixed_none n (get_or work (old + x) 0)))

-- ---- d = 0 is no case of its own: its factors are 0
frac_none : (m : ℕ) → frac 0 m ≡ 0
unfolding frac
frac_none m = ap (λ (t : ℕ). t % 2 ^ 32) (zero-div m)

pub blend_is : (g d newer older : ℕ) → mixed (frac d (g - 1)) newer older ≡ blend g d newer older
unfolding blend
blend_is g zero newer older = ap (λ (b : ℕ). mixed b newer older) (frac_none (g - 1)) ∙ mixed_none newer older
blend_is g (suc d) newer older = simp (ne_eqb (suc d) 0 (λ e. omega arith))

-- the step as the code finds it
pub step_of : (h g u y : ℕ) {f s : ℕ} → f ≡ frac 1 g → s ≡ wrap_mul f (u * g - (y + 1) * h) → s ≡ wrap_mul (frac 1 g) (rest_down h g u y)
step_of h g u y e d = d ∙ ap₂ wrap_mul e (ap (λ (t : ℕ). u * g - t * h) (add-one y))

-- ---- the ratio is at most 2^32
pub ratio_most : (sp h g : ℕ) → 1 ≤ sp → 1 ≤ h → g ≤ h → g * 2 ^ 32 / (sp * h) ≤ 2 ^ 32
ratio_most sp h g s p l =
    let wide : h ≤ sp * h = omega (arith, mul-le-mul_right h s) in
    let less : g * 2 ^ 32 / (sp * h) < 2 ^ 32 + 1 = div_bound (sp * h) (omega arith) (omega arith) in
    omega arith

-- and below 2^31 for a span and heights that are tested once a row
pub ratio_half : (sp h g : ℕ) → 2 * g < sp * h → g * 2 ^ 32 / (sp * h) < 2 ^ 31
ratio_half sp h g l = div_bound (sp * h) (omega arith) (omega arith)

-- the same of q as the code has it
pub ratio_word : (sp h g : ℕ) {q : ℕ} → 1 ≤ sp → 1 ≤ h → g ≤ h → q ≡ ratio sp h g → q ≤ 2 ^ 32
unfolding ratio
ratio_word sp h g s p l is = rw is (ratio_most sp h g s p l)

pub ratio_below : (sp h g : ℕ) {q : ℕ} → q ≡ ratio sp h g → ltb (2 * g) (sp * h) ≡ true → q < 2 ^ 31
unfolding ratio
ratio_below sp h g is t = rw is (ratio_half sp h g (ltb-true (2 * g) (sp * h) t))

-- ---- the factor of a height that grows: below 2^31 for spans above 2
pub factor_half : (sp : ℕ) {factor : ℕ} → factor ≡ factor_up sp → ltb 2 sp ≡ true → factor < 2 ^ 31
unfolding factor_up
factor_half sp is t =
    let more : 2 < sp = ltb-true 2 sp t in
    rw (is, ne_eqb sp 1 (λ e. omega arith), frac_exact 1 sp (omega arith)) (div_bound sp (omega arith) (omega arith))

-- found without a branch: the quotient passes a word for span 1 alone
pub factor_is : (sp : ℕ) → 1 ≤ sp → 2 ^ 32 / sp - 2 ^ 32 / sp / 2 ^ 32 ≡ factor_up sp
unfolding factor_up
factor_is zero h = omega arith
factor_is (suc zero) h = omega arith
factor_is (suc (suc n)) h =
    let sp : ℕ = suc (suc n) in
    let word : 2 ^ 32 / sp < 2 ^ 32 = div_bound sp (omega arith) (omega arith) in
    rw (ne_eqb sp 1 (λ e. omega arith), frac_exact 1 sp (omega arith)) (omega arith)

-- 2^32 - 1 gives the word itself up to 2^31, and beyond it a number that is cut as the word is
one_less : {j : ℕ} → j < 2 ^ 32 → clamp (mult j (factor_up 1)) ≡ clamp j
unfolding mult factor_up
one_less h = omega arith

-- a product with the factor is the byte, of any word
factor_byte : (sp : ℕ) {j : ℕ} → j < 2 ^ 32 → clamp (mult j (factor_up sp)) ≡ byte_up sp j
unfolding factor_up byte_up
factor_byte sp {j} word = by (eqb sp 1) refl
  where
    by : (one : Bool) → eqb sp 1 ≡ one → clamp (mult j (factor_up sp)) ≡ byte_up sp j
    by true e = rw (eqb-true sp 1 e) (one_less word)
    by false e = simp e

-- ---- g ≤ h: what the loops write is what SCOPE says
module _ (s : Scale) (u y : ℕ) (work : List ℕ) (down : s.g ≤ s.h) where
  abbrev d : ℕ
  d = rest_down s.h s.g u y

  abbrev full : ℕ
  full = ratio s.span s.h s.g

  module _ {q step : ℕ} (q-is : q ≡ full) (step_is : step ≡ wrap_mul (frac 1 s.g) d) where
    left_is : (x : ℕ) → shrink_left step s.w work x ≡ share s.g d (get_or work (s.w + x) 0)
    unfolding shrink_left
    left_is x = ap (floor (get_or work (s.w + x) 0)) step_is ∙ sym (share_is s.g d (get_or work (s.w + x) 0))

    module _ (word : q ≡ 2 ^ 32 → ⊥) where
      ne : full ≡ 2 ^ 32 → ⊥
      ne e = word (q-is ∙ e)

      pub shrink_out : {out : List ℕ} → out ≡ tabulate (shrink_byte step q s.w work) s.w → out ≡ tabulate (byte_out s u y work) s.w
      unfolding shrink_byte byte_out byte_down
      shrink_out e =
          e
          ∙ tabulate_cong (shrink_byte step q s.w work) (byte_out s u y work) s.w
          (λ x l. simp (le-leb s.g s.h down, ne_eqb full (2 ^ 32) ne, q-is, left_is x))

      pub shrink_work : {work' : List ℕ} → work' ≡ tabulate (shrink_left step s.w work) s.w ++ drop s.w work → work' ≡ row_left s u y work
      unfolding row_left left_down
      shrink_work e =
          simp (le-leb s.g s.h down, ne_eqb full (2 ^ 32) ne)
          (e
          ∙ ap (λ (t : List ℕ). t ++ drop s.w work)
          (tabulate_cong (shrink_left step s.w work) (λ x. share s.g d (get_or work (s.w + x) 0)) s.w (λ x l. left_is x)))

  -- where the ratio is 2^32
  module _ (one : full ≡ 2 ^ 32) where
    pub take_out_lem : {out : List ℕ} → out ≡ tabulate (low_byte work) s.w → out ≡ tabulate (byte_out s u y work) s.w
    unfolding low_byte byte_out byte_down
    take_out_lem e =
        e
        ∙ tabulate_cong (low_byte work) (byte_out s u y work) s.w
        (λ x l. simp (le-leb s.g s.h down, eq-eqb full (2 ^ 32) one))

    pub take_work_lem : {work' : List ℕ} → work' ≡ tabulate (λ x. 0) s.w ++ drop s.w work → work' ≡ row_left s u y work
    unfolding row_left left_down
    take_work_lem e = simp (le-leb s.g s.h down, eq-eqb full (2 ^ 32) one) e

-- ---- g > h: the same
half_most : (w c : ℕ) → half_of w c ≤ w
half_most w c = go (eqb (c % 2) 0)
  where
    go : (b : Bool) → cond b w 0 ≤ w
    go true = le_refl w
    go false = omega arith

-- each half lies within the work rows
pub grow_room : (c e : ℕ) {work out : List ℕ} {w new old : ℕ} → RoomAsks work out w → new ≡ half_of w c → old ≡ half_of w e → GrowAsks work new old out
grow_room c e {w = w} r n o =
    record { newer = omega (arith, r.halves, r.exact, n, half_most w c); older = omega (arith, r.halves, r.exact, o, half_most w e) }

module _ (s : Scale) (u y : ℕ) (work : List ℕ) (up : s.h < s.g) where
  abbrev rest : ℕ
  rest = rest_up s.h s.g u y

  -- the halves stay
  pub halves_stay : work ≡ row_left s u y work
  unfolding row_left
  halves_stay = simp (lt-leb s.g s.h up)

  module _ {b factor new old : ℕ} (words : (i : ℕ) → get_or work i 0 < 2 ^ 32) (b-is : b ≡ frac rest (s.g - 1)) (factor_is : factor ≡ factor_up s.span)
      (New-is : new ≡ half_of s.w (u - 1)) (old-is : old ≡ half_of s.w u) where
    up_byte : (x : ℕ) → grow_byte b factor work new old x ≡ byte_out s u y work x
    unfolding grow_byte byte_out
    up_byte x =
        let n : ℕ = get_or work (half_of s.w (u - 1) + x) 0 in
        let o : ℕ = get_or work (half_of s.w u + x) 0 in
        let j : ℕ = mixed b (get_or work (new + x) 0) (get_or work (old + x) 0) in
        let j-is : j ≡ blend s.g rest n o = rw (New-is, old-is, b-is) (blend_is s.g rest n o) in
        let word : j < 2 ^ 32 = mixed_word b (rw b-is (frac_word rest (s.g - 1))) (words (new + x)) (words (old + x)) in
        simp (lt-leb s.g s.h up) (ap (λ (f : ℕ). clamp (mult j f)) factor_is ∙ factor_byte s.span word ∙ ap (byte_up s.span) j-is)

    pub grow_out : {out : List ℕ} → out ≡ tabulate (grow_byte b factor work new old) s.w → out ≡ tabulate (byte_out s u y work) s.w
    grow_out e = e ∙ tabulate_cong (grow_byte b factor work new old) (byte_out s u y work) s.w (λ x l. up_byte x)

    pub level_out : {out : List ℕ} → b ≡ 0 → out ≡ tabulate (grow_byte 0 factor work new new) s.w → out ≡ tabulate (byte_out s u y work) s.w
    level_out z e =
        e
        ∙ tabulate_cong (grow_byte 0 factor work new new) (byte_out s u y work) s.w
        (λ x l. none_older factor work new old x ∙ ap (λ (t : ℕ). grow_byte t factor work new old x) (sym z) ∙ up_byte x)
