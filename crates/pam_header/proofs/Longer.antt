-- A header that has ended, or is outside the form, is answered the same whatever follows: it can be read from a beginning of the input. Assumes nothing.
use Prim.Native.Nat.{ℕ, ◌+◌}
use mathlib.Core.Path.{◌≡◌, refl, sym, ◌∙◌, ap, ap₂}
use mathlib.Core.Bool.{Bool, true, false, not, ◌&&◌, ◌||◌, or-true, true≢false}
use mathlib.Core.Logic.{◌⊎◌, inl, inr}
use mathlib.Core.List.{List, [], ◌∷◌, ◌++◌}
use Rattle.pixels.specs.Refusals.{size_if}
use Rattle.pixels.proofs.Truths.{test}
use Rattle.pam_line.specs.declared.Key.{Key}
use Rattle.pam_line.specs.declared.Key.TheVariants.{Width, Height, Depth, Maxval}
use Rattle.pam_header.specs.Header.{lines, opens, others, ends, before_end, end_bytes, strays, given, few, keys_fail, header, malformed, unsupported, size_said, header_number, header_size, header_start, header_unfinished, first_bytes, start_if}
use Rattle.pam_header.proofs.Lines.{lines_longer}
use Rattle.pam_header.proofs.Parts.{strays_append, given_append, ends_append, before_past, before_kept, bytes_kept}
use Rattle.pam_header.proofs.Standing.{Bad}
use Rattle.pam_header.proofs.Going.{eleven, bad_once}

-- what is said of a text's lines, of those of a longer text
record Kept (a b : List (List ℕ)) : Type 0 where
  opened : opens b ≡ opens a
  ended : ends (others b) ≡ ends (others a)
  lead : before_end (others b) ≡ before_end (others a)
  first : first_bytes b ≡ first_bytes a
  later : end_bytes (others b) ≡ end_bytes (others a)

kept : (a more : List (List ℕ)) → ends (others a) ≡ true → Kept a (a ++ more)
unfolding ends
kept [] more e = absurd (true≢false (sym e))
kept (l ∷ ls) more e =
    record {
      opened = refl;
      ended = ends_append ls more ∙ rw e refl;
      lead = before_kept ls more e;
      first = refl;
      later = bytes_kept ls more e;
    }

module _ (s t : List ℕ) (e : ends (others (lines s)) ≡ true) where
  all : Kept (lines s) (lines (s ++ t))
  all = let (more, is) = lines_longer s t in rw is (kept (lines s) more e)

  malformed_kept : malformed (s ++ t) ≡ malformed s
  unfolding malformed
  malformed_kept = rw all.opened (rw all.ended (rw all.lead refl))

  unsupported_kept : unsupported (s ++ t) ≡ unsupported s
  unfolding unsupported
  unsupported_kept = rw all.lead refl

  size_kept : size_said (s ++ t) ≡ size_said s
  size_kept = rw all.lead refl

  number_kept : header_number (s ++ t) ≡ header_number s
  unfolding header_number
  number_kept = rw malformed_kept (rw unsupported_kept (rw all.lead refl))

  -- an end in itself: for programs that read the header first
  pub longer : (header_number (s ++ t) ≡ header_number s) × ((header_size (s ++ t) ≡ header_size s) × (header_start (s ++ t) ≡ header_start s))
  unfolding header_size header_start
  longer = (number_kept, (ap₂ size_if number_kept size_kept, ap₂ start_if number_kept (ap₂ ◌+◌ all.first all.later)))

-- ---- a header outside the form is so however it goes on, once its first line has ended
few_more : (vs ws : List ℕ) → few vs ≡ false → few (vs ++ ws) ≡ false
few_more [] ws e = absurd (true≢false e)
few_more (v ∷ []) ws e = absurd (true≢false e)
few_more (v ∷ w ∷ vs) ws e = refl

bad_more : (a b : List (List ℕ)) → Bad a → Bad (a ++ b)
bad_more a b (inl e) = inl (strays_append a b ∙ rw e refl)
bad_more a b (inr (key, e)) = inr (key, ap few (given_append key a b) ∙ few_more (given key a) (given key b) e)

some_key : (ls : List (List ℕ)) (a b c d : Bool) → few (given Width ls) ≡ a → few (given Height ls) ≡ b → few (given Depth ls) ≡ c → few (given Maxval ls) ≡ d
    → (not a || (not b || (not c || not d))) ≡ true → (key : Key) × (few (given key ls) ≡ false)
some_key ls false b c d ea eb ec ed e = (Width, ea)
some_key ls true false c d ea eb ec ed e = (Height, eb)
some_key ls true true false d ea eb ec ed e = (Depth, ec)
some_key ls true true true false ea eb ec ed e = (Maxval, ed)
some_key ls true true true true ea eb ec ed e = absurd (true≢false (sym e))

bad_of : (ls : List (List ℕ)) (x y : Bool) → strays ls ≡ x → keys_fail few ls ≡ y → (not x && not y) ≡ false → Bad ls
bad_of ls true y ex ey e = inl ex
bad_of ls false true ex ey e = inr (some_key ls _ _ _ _ refl refl refl refl ey)
bad_of ls false false ex ey e = absurd (true≢false e)

both_eleven : (a b : List ℕ) → malformed a ≡ true → malformed b ≡ true → (header_number a ≡ header_number b) × ((header_size a ≡ header_size b) × (header_start a ≡ header_start b))
unfolding header_size header_start
both_eleven a b ea eb = (eleven a ea ∙ sym (eleven b eb), (simp (eleven a ea, eleven b eb), simp (eleven a ea, eleven b eb)))

module _ (s t : List ℕ) (some : lines s ≡ [] → ⊥) (no_end : ends (others (lines s)) ≡ false) where
  go_on : (a b : List (List ℕ)) → (a ≡ [] → ⊥) → (opens (a ++ b) ≡ opens a) × (others (a ++ b) ≡ others a ++ b)
  go_on [] b n = absurd (n refl)
  go_on (l ∷ a) b n = (refl, refl)

  opens_kept : opens (lines (s ++ t)) ≡ opens (lines s)
  opens_kept = let (more, is) = lines_longer s t in ap opens is ∙ (go_on (lines s) more some).0

  bad_kept : Bad (others (lines s)) → Bad (header (s ++ t))
  bad_kept bad =
      let (more, is) = lines_longer s t in
      let lead : header (s ++ t) ≡ others (lines s) ++ before_end more = ap (λ (ls : List (List ℕ)). before_end (others ls)) is ∙ ap before_end (go_on (lines s) more some).1 ∙ before_past (others (lines s)) more no_end in
      rw lead (bad_more (others (lines s)) (before_end more) bad)

  outside_kept : (x : Bool) → opens (lines s) ≡ x → header_unfinished s ≡ false → malformed (s ++ t) ≡ true
  unfolding malformed header_unfinished
  outside_kept false e u = simp (opens_kept, e)
  outside_kept true e u =
      let open-end : (not (strays (others (lines s))) && not (keys_fail few (others (lines s)))) ≡ false = sym (simp (e, no_end)) ∙ u in
      let bad = bad_of (others (lines s)) (strays (others (lines s))) (keys_fail few (others (lines s))) refl refl open-end in
      simp (bad_once (header (s ++ t)) (bad_kept bad), or-true)

  stays_outside : malformed s ≡ true
  unfolding malformed
  stays_outside = simp (no_end, or-true)

-- an end in itself: an answer other than `Ok None` to a beginning that holds the first line is the answer to the whole input
pub settled : (s t : List ℕ) → (lines s ≡ [] → ⊥) → header_unfinished s ≡ false → (header_number (s ++ t) ≡ header_number s) × ((header_size (s ++ t) ≡ header_size s) × (header_start (s ++ t) ≡ header_start s))
settled s t some u = by (test (ends (others (lines s))))
  where
    by : (ends (others (lines s)) ≡ true) ⊎ (ends (others (lines s)) ≡ false) → (header_number (s ++ t) ≡ header_number s) × ((header_size (s ++ t) ≡ header_size s) × (header_start (s ++ t) ≡ header_start s))
    by (inl e) = longer s t e
    by (inr e) = both_eleven (s ++ t) s (outside_kept s t some e (opens (lines s)) refl u) (stays_outside s t some e)
