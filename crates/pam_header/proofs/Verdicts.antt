-- At the end of a header: the answer from what the program holds is the answer from the lines. Assumes nothing.
use Prim.Native.Nat.{ℕ, ◌≤◌, ◌<◌}
use mathlib.Core.Path.{◌≡◌, refl, sym, ◌∙◌, ap}
use mathlib.Core.Bool.{Bool, true, false, not, ◌||◌, or-true}
use mathlib.Core.List.{List, [], ◌∷◌}
use native.Mathlib.Omega.{arith}
use lib.Dec.{eqb, ltb}
use lib.ListN.{length}
use borrow.Author.Tests.{eq-eqb, ne_eqb, eqb-true, eqb-false, ltb-false}
use Rattle.pixels.specs.declared.Dimensions.{Dimensions}
use Rattle.pixels.specs.declared.Refusal.{Refusal}
use Rattle.pixels.specs.declared.Refusal.TheVariants.{InvalidDimensions, PamMalformed, PamUnsupported}
use Rattle.pixels.specs.Refusals.{number}
use Rattle.pixels.specs.Sizes.{max_side, bad_side, bad_size}
use Rattle.pixels.proofs.Causes.{first_at, first_none}
use Rattle.pixels.proofs.Numbers.{not_zero}
use Rattle.pixels.proofs.Fitting.{side_of, side_good}
use Rattle.pam_line.specs.Inner.{cut}
use Rattle.pam_seen.specs.declared.Seen.{Seen}
use Rattle.pam_header.specs.Header.{once, the, rgb_alpha, Answer, answer_number, answer_size, answer_start, answer_unfinished}
use denote.Enum.Bare.{sameb}
use Rattle.std.proofs.Common.{Option, Some, None, Ok, Err, is_none}
use Rattle.std.specs.Option.{ok_or}
use Rattle.std.proofs.lemmas.Option.{none-some}
use Rattle.pam_seen.specs.declared.Types.{Types}
use Rattle.pam_seen.specs.declared.Types.TheVariants as types
use Rattle.pam_seen.specs.contracts.Types.{the_type}
use Rattle.pam_header.specs.Inner.{key_missing, number_held, is_rgb_alpha, other_kind, size_held, verdict_causes, verdict_number, verdict_size, verdict_start}
use Rattle.pam_header.proofs.Standing.{code, type_code}

-- ---- a test of what is held is the test of the true number
pub once_code : (vs : List ℕ) → length vs ≤ 1 → not (once vs) ≡ is_none (code vs)
once_code [] h = refl
once_code (v ∷ []) h = refl
once_code (v ∷ w ∷ vs) h = absurd (omega (arith, h))

same_number : (n v : ℕ) (x : Bool) → n < 65536 → eqb (cut v) n ≡ x → eqb v n ≡ x
same_number n v true h e = eq-eqb v n (omega (arith, eqb-true (cut v) n e))
same_number n v false h e = ne_eqb v n (λ z. eqb-false (cut v) n e (omega (arith, z)))

pub the_code : (n : ℕ) (vs : List ℕ) → n < 65536 → eqb (the vs) n ≡ eqb (number_held (code vs)) n
the_code n [] h = refl
the_code n (v ∷ vs) h = same_number n v (eqb (cut v) n) h refl

pub kind_code : (xs : List Bool) → not (rgb_alpha xs) ≡ not (is_rgb_alpha (type_code xs))
kind_code [] = refl
kind_code (true ∷ []) = refl
kind_code (false ∷ []) = refl
kind_code (x ∷ y ∷ xs) = refl

same_side : (v : ℕ) (x : Bool) → bad_side (cut v) ≡ x → bad_side v ≡ x
unfolding bad_side
same_side v true e = large (ltb max_side v) refl
  where
    large : (y : Bool) → ltb max_side v ≡ y → (eqb v 0 || ltb max_side v) ≡ true
    large true f = simp (f, or-true)
    large false f =
        let keep : cut v ≡ v = omega (arith, ltb-false max_side v f) in
        rw keep at e
same_side v false e =
    let s = side_of (cut v) e in
    side_good v (record { some = omega (arith, s.some); most = omega (arith, s.most) })

pub side_code : (vs : List ℕ) → bad_side (the vs) ≡ bad_side (number_held (code vs))
side_code [] = refl
side_code (v ∷ vs) = same_side v (bad_side (cut v)) refl

-- a side that passes is held as it is
pub side_held : (vs : List ℕ) → bad_side (number_held (code vs)) ≡ false → number_held (code vs) ≡ the vs
side_held [] e = refl
side_held (v ∷ vs) e = let s = side_of (cut v) e in omega (arith, s.most)

-- where there is no value, the refusal handed on is the one asked for
pub malformed_told : {T : Type 0} (o : Option T) (why : Refusal) → o ≡ None → Err why ≡ ok_or o PamMalformed → why ≡ PamMalformed
malformed_told None why e f = cc
malformed_told (Some x) why e f = absurd (none-some x (sym e))

-- ---- the ways out of `verdict`
module _ (t : Seen) (start : ℕ) where
  abbrev pub Verdict : Answer → Type 0
  Verdict r = record {
    number : answer_number r ≡ verdict_number t;
    size : answer_size r ≡ verdict_size t;
    start : answer_start r ≡ verdict_start t start;
    unfinished : answer_unfinished r ≡ false;
  }

  refused : (why : Refusal) → verdict_number t ≡ number why → Verdict (Err why)
  unfolding verdict_size verdict_start
  refused why e =
      let z = not_zero why (verdict_number t) e in
      record { number = sym e; size = simp z; start = simp z; unfinished = refl }

  missing : key_missing t ≡ true → Verdict (Err PamMalformed)
  unfolding verdict_number
  missing e = refused PamMalformed (first_at (verdict_causes t) 0 tt e)

  -- none was given for a key, and what is handed on says so
  pub none_given : (o : Option ℕ) (why : Refusal) (r : Answer) → o ≡ None → Err why ≡ ok_or o PamMalformed → (y : Refusal) × (r ≡ Err y) × (y ≡ why) → key_missing t ≡ true → Verdict r
  none_given o why r e f (y, is, same) gone = rw (is, same, malformed_told o why e f) (missing gone)

  module _ (all : key_missing t ≡ false) where
    pub other : other_kind t ≡ true → Verdict (Err PamUnsupported)
    unfolding verdict_number
    other e = refused PamUnsupported (first_at (verdict_causes t) 1 (all, tt) e)

    module _ (kind : other_kind t ≡ false) (size : Dimensions) (is : size ≡ size_held t) where
      pub wrong : bad_size size ≡ true → Verdict (Err InvalidDimensions)
      unfolding verdict_number
      wrong e = refused InvalidDimensions (first_at (verdict_causes t) 2 (all, (kind, tt)) (ap bad_size (sym is) ∙ e))

      pub picture : bad_size size ≡ false → Verdict (Ok (Some (record { size = size; start = start })))
      unfolding verdict_number verdict_size verdict_start
      picture e =
          let z = first_none (verdict_causes t) (all, (kind, (ap bad_size (sym is) ∙ e, tt))) in
          record { number = sym z; size = is ∙ simp z; start = simp z; unfinished = refl }

-- the program's test of the tuple type
pub same_types : (k : Types) → sameb the_type k types.RgbAlpha ≡ is_rgb_alpha k
same_types types.Missing = refl
same_types types.RgbAlpha = refl
same_types types.Other = refl
