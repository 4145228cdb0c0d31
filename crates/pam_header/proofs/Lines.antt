-- The lines of a text: the first and those of the rest; those of a text that goes on. Assumes nothing.
use Prim.Native.Nat.{ℕ, suc, ◌≤◌, ◌<◌}
use mathlib.Core.Path.{◌≡◌, refl, sym, ◌∙◌, ap}
use mathlib.Core.Bool.{Bool, true, false, cond}
use mathlib.Core.List.{List, [], ◌∷◌, ◌++◌, append-nil, append_assoc}
use native.Mathlib.Omega.{arith}
use lib.Dec.{eqb}
use lib.ListN.{length, take, drop}
use Rattle.pam_text.specs.declared.Class.TheVariants.{Inside}
use Rattle.pam_text.specs.Text.{run_length}
use Rattle.pam_header.specs.Header.{lines_from, lines}

abbrev Split : List ℕ → List ℕ → Type 0
Split held s = lines_from held s ≡ (held ++ take (run_length Inside s) s) ∷ lines_from [] (drop (suc (run_length Inside s)) s)

split_cons : (b : ℕ) (s held : List ℕ) (x : Bool) → eqb b 10 ≡ x → ((h : List ℕ) → run_length Inside s < length s → Split h s) → run_length Inside (b ∷ s) < suc (length s) → Split held (b ∷ s)
unfolding lines_from run_length
split_cons b s held true e ih h = rw e (ap (λ (l : List ℕ). l ∷ lines_from [] s) (sym (append-nil held)))
split_cons b s held false e ih h =
    let k : run_length Inside s < length s = omega (arith, rw e at h) in
    rw e (ih (held ++ (b ∷ [])) k ∙ ap (λ (l : List ℕ). l ∷ lines_from [] (drop (suc (run_length Inside s)) s)) (append_assoc held (b ∷ []) (take (run_length Inside s) s)))

split : (s held : List ℕ) → run_length Inside s < length s → Split held s
unfolding run_length
split [] held h = absurd (omega arith)
split (b ∷ s) held h = split_cons b s held (eqb b 10) refl (split s) h

none_cons : (b : ℕ) (s held : List ℕ) (x : Bool) → eqb b 10 ≡ x → ((h : List ℕ) → length s ≤ run_length Inside s → lines_from h s ≡ []) → suc (length s) ≤ run_length Inside (b ∷ s) → lines_from held (b ∷ s) ≡ []
unfolding lines_from run_length
none_cons b s held true e ih h = absurd (omega (arith, rw e at h))
none_cons b s held false e ih h =
    let k : length s ≤ run_length Inside s = omega (arith, rw e at h) in
    rw e (ih (held ++ (b ∷ [])) k)

none : (s held : List ℕ) → length s ≤ run_length Inside s → lines_from held s ≡ []
unfolding lines_from
none [] held h = refl
none (b ∷ s) held h = none_cons b s held (eqb b 10) refl (none s) h

-- the first line, and the rest
pub lines_split : (s : List ℕ) → run_length Inside s < length s → lines s ≡ take (run_length Inside s) s ∷ lines (drop (suc (run_length Inside s)) s)
lines_split s h = split s [] h

pub lines_none : (s : List ℕ) → length s ≤ run_length Inside s → lines s ≡ []
lines_none s h = none s [] h

-- ---- a text that goes on

-- what stands after the last byte 10
unfoldable leftover : List ℕ → List ℕ → List ℕ
leftover held [] = held
leftover held (b ∷ s) = cond (eqb b 10) (leftover [] s) (leftover (held ++ (b ∷ [])) s)

on_case : (b : ℕ) (s t held : List ℕ) (x : Bool) → eqb b 10 ≡ x → ((h : List ℕ) → lines_from h (s ++ t) ≡ lines_from h s ++ lines_from (leftover h s) t)
    → lines_from held (b ∷ s ++ t) ≡ lines_from held (b ∷ s) ++ lines_from (leftover held (b ∷ s)) t
unfolding lines_from leftover
on_case b s t held true e ih = rw e (ap (λ (ls : List (List ℕ)). held ∷ ls) (ih []))
on_case b s t held false e ih = rw e (ih (held ++ (b ∷ [])))

on : (s t held : List ℕ) → lines_from held (s ++ t) ≡ lines_from held s ++ lines_from (leftover held s) t
unfolding lines_from leftover
on [] t held = refl
on (b ∷ s) t held = on_case b s t held (eqb b 10) refl (on s t)

-- the lines of a longer text go on from those of its beginning
pub lines_longer : (s t : List ℕ) → (more : List (List ℕ)) × (lines (s ++ t) ≡ lines s ++ more)
lines_longer s t = (lines_from (leftover [] s) t, on s t [])
