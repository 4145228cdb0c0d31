-- The numbers of the writer, and the file it writes. Assumes nothing.
use Prim.Native.Nat.{ℕ, ◌+◌, ◌*◌, ◌-◌, ◌≤◌}
use mathlib.Core.Path.{◌≡◌, sym, ◌∙◌, ap, ap₂}
use mathlib.Core.Bool.{true, false, not}
use mathlib.Core.List.{List, [], ◌∷◌, ◌++◌, append-nil}
use native.Mathlib.Nat.{mul-le-mul}
use native.Mathlib.Omega.{arith}
use lib.Dec.{eqb}
use lib.ListN.{length, take, drop, length-append, length-drop, drop_of_length-le}
use lib.Seq.{take_at, length-take-le}
use Rattle.pixels.specs.declared.Dimensions.{Dimensions}
use Rattle.pixels.specs.declared.Refusal.{Refusal}
use Rattle.pixels.specs.declared.Refusal.TheVariants.{PixelBufferMismatch, OutputLength}
use Rattle.pixels.specs.Refusals.{number, Cause, other_length}
use Rattle.pixels.specs.Sizes.{pixel_lanes, picture_bytes, bad_size, wrong_size, size_number}
use Rattle.pixels.proofs.Causes.{first_at, first_none, first_stays, none_applies}
use Rattle.pixels.proofs.Fitting.{size_of_lem}
use Rattle.pixels.proofs.Numbers.{not_zero}
use Rattle.pixels.proofs.Truths.{differ, same, same_of}
use Rattle.pam_put.specs.Put.{put_at}
use Rattle.pam_put.proofs.Putting.{put_fits}
use Rattle.pam_heading.specs.Heading.{heading, bytes_if, heading_causes, heading_number, heading_out}
use Rattle.pam_heading.proofs.Chain.{heading_most}
use Rattle.pam_writing.specs.Writing.{file_bytes, write_causes, write_number, write_out}

module _ (size : Dimensions) where
  good : size_number size ≡ 0 → bad_size size ≡ false
  unfolding size_number
  good z = (none_applies (wrong_size size ∷ []) z).0

  abbrev area : ℕ
  area = picture_bytes pixel_lanes size.width size.height

  pub area_most : size_number size ≡ 0 → area ≤ 1073741824
  area_most z =
      let (w, h) = size_of_lem size (good z) in
      let wide : 4 * size.width ≤ 65536 = omega (arith, w.most) in
      mul-le-mul {n₁ = 4 * size.width} {m₁ = size.height} {n₂ = 65536} {m₂ = 16384} wide h.most

  -- ---- the length of the file
  pub length_stays : (why : Refusal) (n : ℕ) → number why ≡ size_number size → (number why ≡ size_number size) × (0 ≡ bytes_if (size_number size) n)
  length_stays why n e = (e, simp (not_zero why (size_number size) (sym e)))

  module _ (k : ℕ) (z : 0 ≡ size_number size) (e : k ≡ bytes_if (size_number size) (length (heading size))) where
    header_bytes : k ≡ length (heading size)
    header_bytes = e ∙ simp (sym z)

    pub header_most : k ≤ 73
    header_most = omega (arith, header_bytes, heading_most size)

    pub length_told : (0 ≡ size_number size) × (k + area ≡ bytes_if (size_number size) (file_bytes size))
    length_told = (z, ap (λ (x : ℕ). x + area) header_bytes ∙ simp (sym z))

  -- ---- the numbers
  module _ (n m : ℕ) where
    abbrev lengths : List Cause
    lengths = other_length n area PixelBufferMismatch ∷ other_length m (file_bytes size) OutputLength ∷ []

    pub write_stays : (why : Refusal) → number why ≡ size_number size → number why ≡ write_number size n m
    unfolding write_number size_number
    write_stays why e = sym (first_stays why (wrong_size size ∷ []) lengths (sym e))

    module _ (z : 0 ≡ size_number size) where
      pub write_short : not (eqb n area) ≡ true → 3 ≡ write_number size n m
      unfolding write_number
      write_short e = sym (first_at (write_causes size n m) 1 (good (sym z), tt) e)

      module _ (pixels : not (eqb n area) ≡ false) (k : ℕ) (e : k ≡ bytes_if (size_number size) (file_bytes size)) where
        file_bytes_lem : k ≡ file_bytes size
        file_bytes_lem = e ∙ simp (sym z)

        pub write_other : (m ≡ k → ⊥) → 4 ≡ write_number size n m
        unfolding write_number
        write_other d =
            let other = differ m (file_bytes size) (λ f. d (f ∙ sym file_bytes_lem)) in
            sym (first_at (write_causes size n m) 2 (good (sym z), (pixels, tt)) other)

        pub write_passes : m ≡ k → 0 ≡ write_number size n m
        unfolding write_number
        write_passes f =
            let fits = same m (file_bytes size) (f ∙ file_bytes_lem) in
            sym (first_none (write_causes size n m) (good (sym z), (pixels, (fits, tt))))

  -- ---- the file
  module _ (pixels out : List ℕ) (z : write_number size (length pixels) (length out) ≡ 0) where
    lengths_are : (bad_size size ≡ false) × ((length pixels ≡ area) × (length out ≡ file_bytes size))
    unfolding write_number
    lengths_are =
        let p = none_applies (write_causes size (length pixels) (length out)) z in
        (p.0, (same_of (length pixels) area p.1.0, same_of (length out) (file_bytes size) p.1.1.0))

    pub pixels_fit : length pixels ≤ length out
    pixels_fit = omega (arith, lengths_are.1.0, lengths_are.1.1)

    abbrev start : ℕ
    start = length out - length pixels

    pub start_is : start ≡ length (heading size)
    start_is = omega (arith, lengths_are.1.0, lengths_are.1.1)

    pub part_long : start ≡ length (take start out)
    part_long = sym (length-take-le start out (omega arith))

    heading_passes : heading_number size (length (take start out)) ≡ 0
    unfolding heading_number
    heading_passes =
        let fits = same (length (take start out)) (length (heading size)) (sym part_long ∙ start_is) in
        first_none (heading_causes size (length (take start out))) (lengths_are.0, (fits, tt))

    -- the header in its part, then the pixels behind it
    pub file_written :
        (k : ℕ) (part after last : List ℕ) → k ≡ heading_number size (length (take start out)) → part ≡ heading_out size (take start out) → after ≡ part ++ drop start out → last ≡ put_at after start pixels
        → (k ≡ write_number size (length pixels) (length out)) × (last ≡ write_out size pixels out)
    unfolding heading_out write_out
    file_written k part after last ek ep ea el =
        let is : part ≡ heading size = ep ∙ simp heading_passes in
        let front : length part ≡ start = ap length is ∙ sym start_is in
        let joined : after ≡ heading size ++ drop start out = ea ∙ ap (λ (l : List ℕ). l ++ drop start out) is in
        let long : length after ≡ length out = ap length joined ∙ length-append (heading size) (drop start out) ∙ omega (arith, start_is, length-drop start out) in
        let place : start + length pixels ≤ length after = omega (arith, long, pixels_fit) in
        let first : take start after ≡ heading size = ap (take start) joined ∙ take_at (heading size) (drop start out) start (sym start_is) in
        let rest : drop (start + length pixels) after ≡ [] = drop_of_length-le after {i = start + length pixels} (omega (arith, long, pixels_fit)) in
        let whole : last ≡ heading size ++ pixels = el ∙ put_fits after start pixels place ∙ ap₂ (λ (a b : List ℕ). a ++ (pixels ++ b)) first rest ∙ ap (λ (l : List ℕ). heading size ++ l) (append-nil pixels) in
        (ek ∙ heading_passes ∙ sym z, whole ∙ simp z)
