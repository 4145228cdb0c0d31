-- What laying a badge comes to, as its contract states it: two layout words are tested, and what the library answered is said of the layouts that they name.
-- Assumes nothing.
use Rattle.pixels.specs.declared.Refusal.{Refusal}
use Rattle.std.specs.Prelude.{Result, ⊤}
use Prim.Native.Nat.{ℕ, ◌≤◌, ◌<◌}
use mathlib.Core.Path.{◌≡◌, refl, ◌∙◌}
use mathlib.Core.Bool.{true, false, not, ◌||◌, or-true}
use mathlib.Core.List.{List}
use lib.ListN.{length}
use borrow.Author.Tests.{lt-ltb, le-ltb}
use Rattle.pixels.specs.Refusals.{answer_number}
use Rattle.pixels.specs.Sizes.{size_of}
use Rattle.pixels_layout.specs.declared.PixelLayout.{PixelLayout}
use Rattle.pixels_badge.specs.Badge.{badge_number, badge_out}
use Rattle.capi_words.specs.Words.{word_layout, is_layout}
use Rattle.capi_words.specs.Boundary.{boundary}
use Rattle.capi_words.proofs.Boundary.{misuse_told, misuse_kept, passed, buffer_told}
use Rattle.capi_pictures.specs.Pictures.{number_of_badge, pixels_after_badge}

-- ---- the two layout words
first_none : (layout from : ℕ) → 3 ≤ layout → (not (is_layout layout) || not (is_layout from)) ≡ true
first_none layout from h = simp (le-ltb layout 3 h)

second_none : (layout from : ℕ) → 3 ≤ from → (not (is_layout layout) || not (is_layout from)) ≡ true
second_none layout from h = simp (le-ltb from 3 h, or-true)

both_some : (layout from : ℕ) → layout < 3 → from < 3 → (not (is_layout layout) || not (is_layout from)) ≡ false
both_some layout from h k = simp (lt-ltb layout 3 h, lt-ltb from 3 k)

-- ---- jonquilsaw_badge_lay
module _ (w h layout : ℕ) (pixels : List ℕ) (bw bh from : ℕ) (badge : List ℕ) where
  abbrev pub Badge : ℕ → List ℕ → Type 0
  Badge r pixels' = (r ≡ number_of_badge w h layout pixels bw bh from (length badge)) × (pixels' ≡ pixels_after_badge w h layout pixels bw bh from badge)

  none : (not (is_layout layout) || not (is_layout from)) ≡ true → Badge boundary pixels
  unfolding number_of_badge pixels_after_badge
  none e = (misuse_told _ refl e, misuse_kept _ refl e _ pixels)

  pub badge_misused : 3 ≤ layout → Badge boundary pixels
  badge_misused e = none (first_none layout from e)

  pub badge_misused_2 : 3 ≤ from → Badge boundary pixels
  badge_misused_2 e = none (second_none layout from e)

  pub badge_told : layout < 3 → from < 3 → (l k : PixelLayout) → l ≡ word_layout layout → k ≡ word_layout from → (answer : Result ⊤ Refusal)
      → answer_number answer ≡ badge_number (size_of w h) l pixels (size_of bw bh) (length badge)
      → (pixels' : List ℕ) → pixels' ≡ badge_out (size_of w h) l pixels (size_of bw bh) k badge → (r : ℕ) → r ≡ answer_number answer → Badge r pixels'
  unfolding number_of_badge pixels_after_badge badge_out
  badge_told a b l k is its answer m pixels' o r s =
      let p = passed (badge_number (size_of w h) (word_layout layout) pixels (size_of bw bh) (length badge)) refl (both_some layout from a b) in
      (s ∙ rw is at m ∙ p, buffer_told _ _ pixels' _ pixels p (rw (is, its) at o))
