-- What the writer writes is read back: each line says what it was written for. Assumes nothing.
use Prim.Native.Nat.{ℕ, ◌+◌, ◌<◌}
use mathlib.Core.Path.{◌≡◌, refl, sym, ◌∙◌, ap, ap₂}
use mathlib.Core.Bool.{true, false, cond}
use mathlib.Core.List.{List, [], ◌∷◌, ◌++◌}
use native.Mathlib.Omega.{arith}
use lib.ListN.{length, length-append}
use lib.Seq.{drop_at}
use Rattle.preview_decimal.specs.Decimal.{digits, value}
use Rattle.pixels.specs.declared.Dimensions.{Dimensions}
use Rattle.pixels.specs.Sizes.{pixel_lanes, picture_bytes, bad_size, size_of}
use Rattle.pixels.proofs.Causes.{first_none, none_applies}
use Rattle.pixels.proofs.Fitting.{size_of_lem}
use Rattle.pixels.proofs.Truths.{same, same_of}
use Rattle.pam_text.specs.declared.Class.TheVariants.{Inside}
use Rattle.pam_text.specs.Text.{run_length, same_text}
use Rattle.pam_text.proofs.Texts.{Whole, whole_append, whole_cons}
use Rattle.pam_words.specs.Words.{words_from, words}
use Rattle.pam_line.specs.declared.Key.{Key}
use Rattle.pam_line.specs.declared.Key.TheVariants.{Width, Height, Depth, Maxval}
use Rattle.pam_line.specs.declared.Said.TheVariants.{Number, RgbAlpha, End, Outside}
use Rattle.pam_line.specs.Line.{text_p7, text_width, text_height, text_depth, text_maxval, text_tupltype, text_endhdr, text_rgb_alpha, keyword_of, words_say, says}
use Rattle.pam_header.specs.Header.{lines, opens, others, first_bytes, the, ends, before_end, end_bytes, strays, given, types, header, malformed, unsupported, size_said, pixels_from}
use Rattle.pam_reading.specs.Reading.{whole_bytes, pam_causes, pam_number, pam_size, pam_pixels}
use Rattle.pam_decimal.specs.Decimal.{decimal_of}
use Rattle.pam_decimal.proofs.Decimals.{some_digits}
use Rattle.pam_heading.specs.Heading.{spaced, heading_lines, heading}
use Rattle.pam_heading.proofs.Chain.{heading_length}
use Rattle.pam_writing.specs.Writing.{written, write_causes, write_number, write_out}
use Rattle.pam_claim.specs.Claim.{ReadsBack, RoundTrip}
use Rattle.pam_claim.proofs.Digits.{decimal_inside, decimal_solid, decimal_digits, decimal_value}
use Rattle.pam_claim.proofs.Texts.{AllInside, lines_back, words_back}

-- ---- the lines of the sides
module _ (n : ℕ) (small : n < 100000) where
  numbered : (key : Key) → cond (digits (decimal_of n) (length (decimal_of n))) (Number key (value (decimal_of n) (length (decimal_of n)))) Outside ≡ Number key n
  numbered key = rw (decimal_digits n) (ap (Number key) (decimal_value n small))

  width_words : words (spaced text_width (decimal_of n)) ≡ text_width ∷ decimal_of n ∷ []
  unfolding run_length
  width_words = words_back text_width (decimal_of n) refl (decimal_solid n) (omega arith) (some_digits n).0

  pub width_says : says (spaced text_width (decimal_of n)) ≡ Number Width n
  unfolding says keyword_of same_text
  width_says = ap words_say width_words ∙ numbered Width

  height_words : words (spaced text_height (decimal_of n)) ≡ text_height ∷ decimal_of n ∷ []
  unfolding run_length
  height_words = words_back text_height (decimal_of n) refl (decimal_solid n) (omega arith) (some_digits n).0

  pub height_says : says (spaced text_height (decimal_of n)) ≡ Number Height n
  unfolding says keyword_of same_text
  height_says = ap words_say height_words ∙ numbered Height

-- ---- the other lines
depth_says : says (spaced text_depth (52 ∷ [])) ≡ Number Depth 4
unfolding says words_from keyword_of same_text digits value
depth_says = refl

maxval_says : says (spaced text_maxval (50 ∷ 53 ∷ 53 ∷ [])) ≡ Number Maxval 255
unfolding says words_from keyword_of same_text digits value
maxval_says = refl

type_says : says (spaced text_tupltype text_rgb_alpha) ≡ RgbAlpha
unfolding says words_from keyword_of same_text
type_says = refl

end_says : says text_endhdr ≡ End
unfolding says words_from keyword_of same_text
end_says = refl

-- ---- six lines together
module _ (size : Dimensions) (wide : size.width < 100000) (high : size.height < 100000) (rest : List (List ℕ)) where
  abbrev lead : List (List ℕ)
  lead =
      spaced text_width (decimal_of size.width)
      ∷ spaced text_height (decimal_of size.height)
      ∷ spaced text_depth (52 ∷ [])
      ∷ spaced text_maxval (50 ∷ 53 ∷ 53 ∷ [])
      ∷ spaced text_tupltype text_rgb_alpha
      ∷ []

  abbrev six : List (List ℕ)
  six = lead ++ (text_endhdr ∷ rest)

  abbrev w : says (spaced text_width (decimal_of size.width)) ≡ Number Width size.width
  w = width_says size.width wide

  abbrev h : says (spaced text_height (decimal_of size.height)) ≡ Number Height size.height
  h = height_says size.height high

  six_end : ends six ≡ true
  unfolding ends
  six_end = rw w (rw h (rw depth_says (rw maxval_says (rw type_says (rw end_says refl)))))

  six_lead : before_end six ≡ lead
  unfolding before_end
  six_lead = rw w (rw h (rw depth_says (rw maxval_says (rw type_says (rw end_says refl)))))

  six_clean : strays lead ≡ false
  unfolding strays
  six_clean = rw w (rw h (rw depth_says (rw maxval_says (rw type_says refl))))

  six_width : given Width lead ≡ size.width ∷ []
  unfolding given
  six_width = rw w (rw h (rw depth_says (rw maxval_says (rw type_says refl))))

  six_height : given Height lead ≡ size.height ∷ []
  unfolding given
  six_height = rw w (rw h (rw depth_says (rw maxval_says (rw type_says refl))))

  six_depth : given Depth lead ≡ 4 ∷ []
  unfolding given
  six_depth = rw w (rw h (rw depth_says (rw maxval_says (rw type_says refl))))

  six_maxval : given Maxval lead ≡ 255 ∷ []
  unfolding given
  six_maxval = rw w (rw h (rw depth_says (rw maxval_says (rw type_says refl))))

  six_types : types lead ≡ true ∷ []
  unfolding types
  six_types = rw w (rw h (rw depth_says (rw maxval_says (rw type_says refl))))

  six_bytes : end_bytes six ≡ 60 + length (decimal_of size.width) + length (decimal_of size.height)
  unfolding end_bytes
  six_bytes = rw w (rw h (rw depth_says (rw maxval_says (rw type_says (rw end_says (simp length-append (omega arith)))))))

-- ---- the file
module _ (size : Dimensions) (pixels : List ℕ) (good : bad_size size ≡ false) (long : length pixels ≡ picture_bytes pixel_lanes size.width size.height) where
  abbrev file : List ℕ
  file = written size pixels

  wide : size.width < 100000
  wide = omega (arith, (size_of_lem size good).0.most)

  high : size.height < 100000
  high = omega (arith, (size_of_lem size good).1.most)

  all_inside : AllInside (heading_lines size)
  unfolding run_length
  all_inside =
      let spaced-inside : (a : List ℕ) (n : ℕ) → Whole Inside a → Whole Inside (spaced a (decimal_of n)) = λ a n i. whole_append Inside a (32 ∷ decimal_of n) i (whole_cons Inside 32 (decimal_of n) refl (decimal_inside n)) in
      (refl, (spaced-inside text_width size.width refl, (spaced-inside text_height size.height refl, (refl, (refl, (refl, (refl, tt)))))))

  file_lines : lines file ≡ text_p7 ∷ six size wide high (lines pixels)
  unfolding heading
  file_lines = lines_back (heading_lines size) pixels all_inside

  header_is : header file ≡ lead size wide high (lines pixels)
  header_is = ap (λ (ls : List (List ℕ)). before_end (others ls)) file_lines ∙ six_lead size wide high (lines pixels)

  given_is : (key : Key) (v : ℕ) → given key (lead size wide high (lines pixels)) ≡ v ∷ [] → given key (header file) ≡ v ∷ []
  given_is key v e = ap (given key) header_is ∙ e

  width_is : given Width (header file) ≡ size.width ∷ []
  width_is = given_is Width size.width (six_width size wide high (lines pixels))

  height_is : given Height (header file) ≡ size.height ∷ []
  height_is = given_is Height size.height (six_height size wide high (lines pixels))

  depth_is : given Depth (header file) ≡ 4 ∷ []
  depth_is = given_is Depth 4 (six_depth size wide high (lines pixels))

  maxval_is : given Maxval (header file) ≡ 255 ∷ []
  maxval_is = given_is Maxval 255 (six_maxval size wide high (lines pixels))

  formed : malformed file ≡ false
  unfolding malformed same_text
  formed =
      let opened : opens (lines file) ≡ true = ap opens file_lines in
      let over : ends (others (lines file)) ≡ true = ap (λ (ls : List (List ℕ)). ends (others ls)) file_lines ∙ six_end size wide high (lines pixels) in
      let clean : strays (header file) ≡ false = ap strays header_is ∙ six_clean size wide high (lines pixels) in
      simp (opened, over, clean, width_is, height_is, depth_is, maxval_is)

  supported : unsupported file ≡ false
  unfolding unsupported
  supported =
      let kind : types (header file) ≡ true ∷ [] = ap types header_is ∙ six_types size wide high (lines pixels) in
      simp (depth_is, maxval_is, kind)

  size_said_lem : size_said file ≡ size
  size_said_lem = ap₂ size_of (ap the width_is) (ap the height_is)

  begins : pixels_from file ≡ length (heading size)
  begins =
      ap (λ (ls : List (List ℕ)). first_bytes ls + end_bytes (others ls)) file_lines
      ∙ omega (arith, six_bytes size wide high (lines pixels), heading_length size)

  whole : length file ≡ whole_bytes file
  whole =
      length-append (heading size) pixels
      ∙ ap₂ ◌+◌ (sym begins) (long ∙ sym (ap (λ (d : Dimensions). picture_bytes pixel_lanes d.width d.height) size_said_lem))

  passes : pam_number file ≡ 0
  unfolding pam_number
  passes = first_none (pam_causes file) (formed, (supported, (ap bad_size size_said_lem ∙ good, (same (length file) (whole_bytes file) whole, tt))))

  reads_back : ReadsBack size pixels file
  unfolding pam_size pam_pixels
  reads_back =
      record {
        number = passes;
        same_size = simp passes size_said_lem;
        same_pixels = simp passes (drop_at (heading size) pixels (pixels_from file) (sym begins));
      }

pub round_trip : RoundTrip
unfolding RoundTrip write_number write_out
round_trip size pixels out z =
    let p = none_applies (write_causes size (length pixels) (length out)) z in
    let exact = same_of (length pixels) (picture_bytes pixel_lanes size.width size.height) p.1.0 in
    rw z (reads_back size pixels p.0 exact)
