-- Each way out of the functions that write PAM pictures, as their contracts state it. Assumes nothing.
use Prim.Native.Nat.{ℕ, ◌≤◌, ◌<◌}
use mathlib.Core.Path.{◌≡◌, refl, sym, ◌∙◌}
use mathlib.Core.List.{List}
use native.Mathlib.Omega.{arith}
use lib.ListN.{length}
use borrow.Author.Tests.{lt-ltb, le-ltb}
use Rattle.pixels.specs.declared.Dimensions.{Dimensions}
use Rattle.pixels.specs.declared.Refusal.{Refusal}
use Rattle.pixels.specs.Refusals.{number, buffer_if}
use Rattle.pixels.specs.Sizes.{size_of, size_number}
use Rattle.pam_heading.specs.Heading.{bytes_if}
use Rattle.pam_heading.proofs.Chain.{heading_most}
use Rattle.pam_writing.specs.Writing.{file_bytes}
use Rattle.pam_writing.proofs.Writing.{area_most}
use Rattle.capi_words.specs.Boundary.{boundary, stored_word}
use Rattle.capi_words.proofs.Boundary.{misuse_told, misuse_kept, passed, kept_by, written_by}
use Rattle.capi_pam_writing.specs.PamWriting.{number_of_pam_length}

-- ---- a length in one lent word: n is the true one
module _ (width height : ℕ) (bytes : List ℕ) (n : ℕ) where
  abbrev told : ℕ
  told = number_of_pam_length width height (length bytes)

  abbrev pub Length : ℕ → List ℕ → Type 0
  Length r bytes' = (r ≡ told) × (bytes' ≡ buffer_if told (stored_word n bytes) bytes)

  pub length_misused : length bytes < 1 → Length boundary bytes
  unfolding number_of_pam_length
  length_misused h =
      let e = lt-ltb (length bytes) 1 h in
      (misuse_told _ refl e, misuse_kept _ refl e _ bytes)

  module _ (h : 1 ≤ length bytes) where
    size_told : size_number (size_of width height) ≡ told
    unfolding number_of_pam_length
    size_told = passed _ refl (le-ltb (length bytes) 1 h)

    pub length_refused : (why : Refusal) → number why ≡ size_number (size_of width height) → {r : ℕ} → r ≡ number why → Length r bytes
    length_refused why e is =
        let z : number why ≡ told = e ∙ size_told in
        (is ∙ z, kept_by why _ _ bytes (sym z))

    pub length_stored : (k : ℕ) → 0 ≡ size_number (size_of width height) → k ≡ bytes_if (size_number (size_of width height)) n → {bytes' : List ℕ} → bytes' ≡ stored_word k bytes → Length 0 bytes'
    length_stored k e l s =
        let z = e ∙ size_told in
        let is : k ≡ n = l ∙ simp (sym e) in
        (z, written_by _ _ _ bytes z (rw is at s))

-- the file of a picture has fewer bytes than a word can say
pub file_most : (size : Dimensions) (k : ℕ) → 0 ≡ size_number size → k ≡ bytes_if (size_number size) (file_bytes size) → k ≤ 1073741897
file_most size k e l =
    let is : k ≡ file_bytes size = l ∙ simp (sym e) in
    omega (arith, is, heading_most size, area_most size (sym e))
