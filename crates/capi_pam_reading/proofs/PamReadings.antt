-- Each way out of the functions that read PAM pictures, as their contracts state it. Assumes nothing.
use Prim.Native.Nat.{ℕ, ◌≤◌, ◌<◌}
use mathlib.Core.Path.{◌≡◌, refl, sym, ◌∙◌}
use mathlib.Core.Bool.{Bool}
use mathlib.Core.List.{List, [], ◌∷◌}
use lib.ListN.{length}
use borrow.Author.Tests.{lt-ltb, le-ltb}
use Rattle.pixels.specs.declared.Dimensions.{Dimensions}
use Rattle.pixels.specs.declared.Refusal.{Refusal}
use Rattle.pixels.specs.Refusals.{number}
use Rattle.pam_header.specs.Header.{header_number, header_size, header_start, header_unfinished, size_said, pixels_from}
use Rattle.pam_reading.specs.Reading.{pam_number, pam_size}
use Rattle.capi_words.specs.Words.{flag_word, stored}
use Rattle.capi_words.specs.Boundary.{boundary, stored_size}
use Rattle.capi_words.proofs.Boundary.{misuse_told, misuse_kept, passed, kept_by, written_by}
use Rattle.capi_pam_reading.specs.PamReading.{number_of_read_pam_header, stored_header, answer_after_read_pam_header, number_of_pam_unfinished, flag_after_pam_unfinished, number_of_read_pam, size_after_read_pam}

-- ---- jonquilsaw_read_pam_header
module _ (input answer : List ℕ) where
  abbrev pub ReadHeader : ℕ → List ℕ → Type 0
  ReadHeader r answer' = (r ≡ number_of_read_pam_header input (length answer)) × (answer' ≡ answer_after_read_pam_header input answer)

  pub header_misused : length answer < 4 → ReadHeader boundary answer
  unfolding number_of_read_pam_header answer_after_read_pam_header
  header_misused h =
      let e = lt-ltb (length answer) 4 h in
      (misuse_told _ refl e, misuse_kept _ refl e _ answer)

  module _ (h : 4 ≤ length answer) where
    header_told : header_number input ≡ number_of_read_pam_header input (length answer)
    unfolding number_of_read_pam_header
    header_told = passed (header_number input) refl (le-ltb (length answer) 4 h)

    pub header_refused : (why : Refusal) → number why ≡ header_number input → {r : ℕ} → r ≡ number why → ReadHeader r answer
    unfolding answer_after_read_pam_header
    header_refused why n is =
        let z : number why ≡ number_of_read_pam_header input (length answer) = n ∙ header_told in
        (is ∙ z, kept_by why _ _ answer (sym z))

    pub header_read : (size : Dimensions) (start : ℕ) → 0 ≡ header_number input → size ≡ header_size input → start ≡ header_start input
        → {answer' : List ℕ} → answer' ≡ stored_header size start answer → ReadHeader 0 answer'
    unfolding answer_after_read_pam_header header_size header_start
    header_read size start n d a s =
        let z = n ∙ header_told in
        let size_is : size ≡ size_said input = d ∙ simp (sym n) in
        let start_is : start ≡ pixels_from input = a ∙ simp (sym n) in
        (z, written_by _ _ _ answer z (rw (size_is, start_is) at s))

-- ---- jonquilsaw_pam_unfinished
module _ (input flag : List ℕ) where
  abbrev pub Unfinished : ℕ → List ℕ → Type 0
  Unfinished r flag' = (r ≡ number_of_pam_unfinished (length flag)) × (flag' ≡ flag_after_pam_unfinished input flag)

  pub unfinished_misused : length flag < 1 → Unfinished boundary flag
  unfolding number_of_pam_unfinished flag_after_pam_unfinished
  unfinished_misused h =
      let e = lt-ltb (length flag) 1 h in
      (misuse_told _ refl e, misuse_kept _ refl e _ flag)

  -- b is what the library answered, word what stands for it
  pub unfinished_told : 1 ≤ length flag → {b : Bool} → b ≡ header_unfinished input → {word : ℕ} → word ≡ flag_word b → {flag' : List ℕ} → flag' ≡ stored (word ∷ []) flag → Unfinished 0 flag'
  unfolding number_of_pam_unfinished flag_after_pam_unfinished
  unfinished_told h is w s =
      let p = passed 0 refl (le-ltb (length flag) 1 h) in
      (p, written_by _ _ _ flag p (rw (w, is) at s))

-- ---- jonquilsaw_read_pam
module _ (input size : List ℕ) where
  abbrev pub Read : ℕ → List ℕ → Type 0
  Read r size' = (r ≡ number_of_read_pam input (length size)) × (size' ≡ size_after_read_pam input size)

  pub read_misused : length size < 2 → Read boundary size
  unfolding number_of_read_pam size_after_read_pam
  read_misused h =
      let e = lt-ltb (length size) 2 h in
      (misuse_told _ refl e, misuse_kept _ refl e _ size)

  module _ (h : 2 ≤ length size) where
    read_told : pam_number input ≡ number_of_read_pam input (length size)
    unfolding number_of_read_pam
    read_told = passed (pam_number input) refl (le-ltb (length size) 2 h)

    pub read_refused : (why : Refusal) → number why ≡ pam_number input → {r : ℕ} → r ≡ number why → Read r size
    unfolding size_after_read_pam
    read_refused why n is =
        let z : number why ≡ number_of_read_pam input (length size) = n ∙ read_told in
        (is ∙ z, kept_by why _ _ size (sym z))

    pub picture_read : (d : Dimensions) → 0 ≡ pam_number input → d ≡ pam_size input → {size' : List ℕ} → size' ≡ stored_size d size → Read 0 size'
    unfolding size_after_read_pam pam_size
    picture_read d n e s =
        let z = n ∙ read_told in
        let is : d ≡ size_said input = e ∙ simp (sym n) in
        (z, written_by _ _ _ size z (rw is at s))
