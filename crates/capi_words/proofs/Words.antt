-- What the words of layouts stand for, and what an answer stored in lent words comes to. Assumes nothing.
use Prim.Native.Nat.{ℕ, zero, suc, ◌≤◌, ◌<◌}
use mathlib.Core.Path.{◌≡◌, refl}
use mathlib.Core.List.{List, ◌++◌}
use native.Mathlib.Nat.{zero-add}
use native.Mathlib.Omega.{arith}
use lib.ListN.{length, get_or, set, take, drop}
use lib.Seq.{paste-suc}
use borrow.Author.Tests.{le-leb, lt-leb}
use Rattle.pixels_layout.specs.declared.PixelLayout.TheVariants.{Rgba8}
use Rattle.capi_words.specs.Words.{word_layout, stored}

-- every word but 1 and 2 stands for the first layout
pub first_layout : (word : ℕ) → (word ≡ 1 → ⊥) → (word ≡ 2 → ⊥) → Rgba8 ≡ word_layout word
first_layout zero a b = refl
first_layout (suc zero) a b = absurd (a refl)
first_layout (suc (suc zero)) a b = absurd (b refl)
first_layout (suc (suc (suc word))) a b = refl

-- ---- an answer in lent words
pub stored_enough : (answer words : List ℕ) → length answer ≤ length words → stored answer words ≡ answer ++ drop (length answer) words
unfolding stored
stored_enough answer words h = simp (le-leb (length answer) (length words) h)

pub stored_short : (answer words : List ℕ) → length words < length answer → words ≡ stored answer words
unfolding stored
stored_short answer words h = simp (lt-leb (length answer) (length words) h)

-- one word more
pub store_next : (words answer : List ℕ) (i : ℕ) → i < length words → i < length answer → set (take i answer ++ drop i words) i (get_or answer i 0) ≡ take (suc i) answer ++ drop (suc i) words
store_next words answer i h k = simp zero-add at (paste-suc words 0 answer i 0 (omega arith) k)
