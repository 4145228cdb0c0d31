-- What packing and unpacking come to, as their contracts state it: l is the layout that the word names, and what the library answered is said of l. Assumes nothing.
use Rattle.pixels.specs.declared.Refusal.{Refusal}
use Rattle.std.specs.Prelude.{Result, ⊤}
use Prim.Native.Nat.{ℕ, ◌≤◌, ◌<◌}
use mathlib.Core.Path.{◌≡◌, refl, ◌∙◌}
use mathlib.Core.Bool.{Bool, true, false, not}
use mathlib.Core.List.{List, [], ◌∷◌}
use lib.ListN.{length}
use borrow.Author.Tests.{lt-ltb, le-ltb}
use Rattle.pixels.specs.Refusals.{answer_number}
use Rattle.pixels_layout.specs.declared.PixelLayout.{PixelLayout}
use Rattle.pixels_layout.specs.Layout.{pack_number, unpack_number, pack_out, unpack_out}
use Rattle.pixels_alpha.specs.Alpha.{argb_has_alpha}
use Rattle.capi_words.specs.Words.{word_layout, is_layout, flag_word, stored}
use Rattle.capi_words.specs.Boundary.{boundary}
use Rattle.capi_words.proofs.Boundary.{misuse_told, misuse_kept, passed, buffer_told, written_by}
use Rattle.capi_packing.specs.Packing.{number_of_pack, out_after_pack, number_of_unpack, argb_after_unpack, number_of_argb_has_alpha, flag_after_argb_has_alpha}

-- ---- the layout word
no_layout : (layout : ℕ) → 3 ≤ layout → not (is_layout layout) ≡ true
no_layout layout h = simp (le-ltb layout 3 h)

some_layout : (layout : ℕ) → layout < 3 → not (is_layout layout) ≡ false
some_layout layout h = simp (lt-ltb layout 3 h)

-- ---- jonquilsaw_pack_pixels
module _ (layout : ℕ) (argb out : List ℕ) where
  abbrev pub Pack : ℕ → List ℕ → Type 0
  Pack r out' = (r ≡ number_of_pack layout (length argb) (length out)) × (out' ≡ out_after_pack layout argb out)

  pub pack_misused : 3 ≤ layout → Pack boundary out
  unfolding number_of_pack out_after_pack
  pack_misused h = (misuse_told _ refl (no_layout layout h), misuse_kept _ refl (no_layout layout h) _ out)

  pub pack_told : layout < 3 → (l : PixelLayout) → l ≡ word_layout layout → (answer : Result ⊤ Refusal) → answer_number answer ≡ pack_number (length argb) (length out)
      → (out' : List ℕ) → out' ≡ pack_out l argb out → (r : ℕ) → r ≡ answer_number answer → Pack r out'
  unfolding number_of_pack out_after_pack pack_out
  pack_told h l is answer m out' o r s =
      let p = passed (pack_number (length argb) (length out)) refl (some_layout layout h) in
      (s ∙ m ∙ p, buffer_told _ _ out' _ out p (rw is at o))

-- ---- jonquilsaw_unpack_pixels
module _ (layout : ℕ) (bytes argb : List ℕ) where
  abbrev pub Unpack : ℕ → List ℕ → Type 0
  Unpack r argb' = (r ≡ number_of_unpack layout (length bytes) (length argb)) × (argb' ≡ argb_after_unpack layout bytes argb)

  pub unpack_misused : 3 ≤ layout → Unpack boundary argb
  unfolding number_of_unpack argb_after_unpack
  unpack_misused h = (misuse_told _ refl (no_layout layout h), misuse_kept _ refl (no_layout layout h) _ argb)

  pub unpack_told : layout < 3 → (l : PixelLayout) → l ≡ word_layout layout → (answer : Result ⊤ Refusal) → answer_number answer ≡ unpack_number (length bytes) (length argb)
      → (argb' : List ℕ) → argb' ≡ unpack_out l bytes argb → (r : ℕ) → r ≡ answer_number answer → Unpack r argb'
  unfolding number_of_unpack argb_after_unpack unpack_out
  unpack_told h l is answer m argb' o r s =
      let p = passed (unpack_number (length bytes) (length argb)) refl (some_layout layout h) in
      (s ∙ m ∙ p, buffer_told _ _ argb' _ argb p (rw is at o))

-- ---- jonquilsaw_argb_has_alpha
module _ (argb flag : List ℕ) where
  abbrev pub ArgbHasAlpha : ℕ → List ℕ → Type 0
  ArgbHasAlpha r flag' = (r ≡ number_of_argb_has_alpha (length flag)) × (flag' ≡ flag_after_argb_has_alpha argb flag)

  pub flag_misused : length flag < 1 → ArgbHasAlpha boundary flag
  unfolding number_of_argb_has_alpha flag_after_argb_has_alpha
  flag_misused h =
      let e = lt-ltb (length flag) 1 h in
      (misuse_told _ refl e, misuse_kept _ refl e _ flag)

  -- b is the flag that the library answered, word what stands for it
  pub flag_told : 1 ≤ length flag → {b : Bool} → b ≡ argb_has_alpha argb → {word : ℕ} → word ≡ flag_word b → {flag' : List ℕ} → flag' ≡ stored (word ∷ []) flag → ArgbHasAlpha 0 flag'
  unfolding number_of_argb_has_alpha flag_after_argb_has_alpha
  flag_told h is w s =
      let p = passed 0 refl (le-ltb (length flag) 1 h) in
      (p, written_by _ _ _ flag p (rw (w, is) at s))
