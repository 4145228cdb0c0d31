-- The answers of the header's length and of the header written. Assumes nothing.
use Prim.Native.Nat.{ℕ}
use mathlib.Core.Path.{◌≡◌, sym, ◌∙◌}
use mathlib.Core.Bool.{true, false}
use mathlib.Core.List.{List}
use lib.ListN.{length}
use Rattle.pixels.specs.declared.Dimensions.{Dimensions}
use Rattle.pixels.specs.declared.Refusal.TheVariants.{InvalidDimensions, OutputLength}
use Rattle.pixels.specs.Sizes.{bad_size, size_number}
use Rattle.pixels.proofs.Causes.{first_at, first_none}
use Rattle.pixels.proofs.Fitting.{size_bad, size_passes}
use Rattle.pixels.proofs.Numbers.{buffer_refused, buffer_written}
use Rattle.pixels.proofs.Truths.{differ, same}
use Rattle.pam_heading.specs.Heading.{heading, bytes_if, heading_causes, heading_number, heading_out}

module _ (size : Dimensions) where
  pub length_refused : (n : ℕ) → bad_size size ≡ true → (1 ≡ size_number size) × (0 ≡ bytes_if (size_number size) n)
  length_refused n e = (sym (size_bad size e), simp (size_bad size e))

  pub length_told : (k n : ℕ) → bad_size size ≡ false → k ≡ n → (0 ≡ size_number size) × (k ≡ bytes_if (size_number size) n)
  length_told k n e f = (sym (size_passes size e), simp (size_passes size e, f))

  module _ (out : List ℕ) where
    abbrev pub Written : ℕ → List ℕ → Type 0
    Written n after = (n ≡ heading_number size (length out)) × (after ≡ heading_out size out)

    pub heading_wrong : bad_size size ≡ true → Written 1 out
    unfolding heading_number heading_out
    heading_wrong e = buffer_refused InvalidDimensions _ (heading size) out (first_at (heading_causes size (length out)) 0 tt e)

    module _ (good : bad_size size ≡ false) (k : ℕ) (is : k ≡ length (heading size)) where
      pub heading_other : (length out ≡ k → ⊥) → Written 4 out
      unfolding heading_number heading_out
      heading_other e =
          let other = differ (length out) (length (heading size)) (λ f. e (f ∙ sym is)) in
          buffer_refused OutputLength _ (heading size) out (first_at (heading_causes size (length out)) 1 (good, tt) other)

      pub heading_written : (after : List ℕ) → length out ≡ k → after ≡ heading size → Written 0 after
      unfolding heading_number heading_out
      heading_written after e f =
          let fits = same (length out) (length (heading size)) (e ∙ is) in
          buffer_written _ (heading size) out (first_none (heading_causes size (length out)) (good, (fits, tt))) f
