-- What lines say together, of two lists one after the other. Assumes nothing.
use Prim.Native.Nat.{ℕ, ◌+◌}
use mathlib.Core.Path.{◌≡◌, refl, sym, ◌∙◌, ap}
use mathlib.Core.Bool.{Bool, true, false, ◌||◌, or_assoc, true≢false}
use mathlib.Core.List.{List, [], ◌∷◌, ◌++◌, append_assoc}
use native.Mathlib.Omega.{arith}
use lib.ListN.{length}
use Rattle.pixels.proofs.Truths.{neither_true}
use Rattle.pam_line.specs.declared.Key.{Key}
use Rattle.pam_line.specs.Line.{says}
use Rattle.pam_header.specs.Header.{is_end, ends, before_end, end_bytes, is_outside, strays, numbers, given, type_of, types}

pub strays_append : (a b : List (List ℕ)) → strays (a ++ b) ≡ (strays a || strays b)
unfolding strays
strays_append [] b = refl
strays_append (l ∷ a) b = ap (λ (x : Bool). is_outside (says l) || x) (strays_append a b) ∙ sym (or_assoc (is_outside (says l)) (strays a) (strays b))

pub given_append : (key : Key) (a b : List (List ℕ)) → given key (a ++ b) ≡ given key a ++ given key b
unfolding given
given_append key [] b = refl
given_append key (l ∷ a) b = ap (λ (x : List ℕ). numbers key (says l) ++ x) (given_append key a b) ∙ sym (append_assoc (numbers key (says l)) (given key a) (given key b))

pub types_append : (a b : List (List ℕ)) → types (a ++ b) ≡ types a ++ types b
unfolding types
types_append [] b = refl
types_append (l ∷ a) b = ap (λ (x : List Bool). type_of (says l) ++ x) (types_append a b) ∙ sym (append_assoc (type_of (says l)) (types a) (types b))

pub ends_append : (a b : List (List ℕ)) → ends (a ++ b) ≡ (ends a || ends b)
unfolding ends
ends_append [] b = refl
ends_append (l ∷ a) b = ap (λ (x : Bool). is_end (says l) || x) (ends_append a b) ∙ sym (or_assoc (is_end (says l)) (ends a) (ends b))

-- ---- where the first has no end
-- the bytes of lines, each with its byte 10
unfoldable pub bytes : List (List ℕ) → ℕ
bytes [] = 0
bytes (l ∷ ls) = length l + 1 + bytes ls

pub bytes_append : (a b : List (List ℕ)) → bytes (a ++ b) ≡ bytes a + bytes b
unfolding bytes
bytes_append [] b = omega arith
bytes_append (l ∷ a) b = omega (arith, bytes_append a b)

pub before_past : (a b : List (List ℕ)) → ends a ≡ false → before_end (a ++ b) ≡ a ++ before_end b
unfolding ends before_end
before_past [] b e = refl
before_past (l ∷ a) b e =
    let (now, later) = neither_true (is_end (says l)) (ends a) e in
    rw now (ap (λ (x : List (List ℕ)). l ∷ x) (before_past a b later))

pub bytes_past : (a b : List (List ℕ)) → ends a ≡ false → end_bytes (a ++ b) ≡ bytes a + end_bytes b
unfolding ends end_bytes bytes
bytes_past [] b e = omega arith
bytes_past (l ∷ a) b e =
    let (now, later) = neither_true (is_end (says l)) (ends a) e in
    rw now (omega (arith, bytes_past a b later))

-- ---- where the first has an end, what follows plays no part
before_case : (l : List ℕ) (a b : List (List ℕ)) (x : Bool) → is_end (says l) ≡ x → (ends a ≡ true → before_end (a ++ b) ≡ before_end a) → ends (l ∷ a) ≡ true → before_end (l ∷ a ++ b) ≡ before_end (l ∷ a)
unfolding ends before_end
before_case l a b true e ih h = rw e refl
before_case l a b false e ih h = rw e (ap (λ (x : List (List ℕ)). l ∷ x) (ih (rw e at h)))

pub before_kept : (a b : List (List ℕ)) → ends a ≡ true → before_end (a ++ b) ≡ before_end a
unfolding ends
before_kept [] b h = absurd (true≢false (sym h))
before_kept (l ∷ a) b h = before_case l a b (is_end (says l)) refl (before_kept a b) h

bytes_case : (l : List ℕ) (a b : List (List ℕ)) (x : Bool) → is_end (says l) ≡ x → (ends a ≡ true → end_bytes (a ++ b) ≡ end_bytes a) → ends (l ∷ a) ≡ true → end_bytes (l ∷ a ++ b) ≡ end_bytes (l ∷ a)
unfolding ends end_bytes
bytes_case l a b true e ih h = rw e refl
bytes_case l a b false e ih h = rw e (ap (λ (n : ℕ). length l + 1 + n) (ih (rw e at h)))

pub bytes_kept : (a b : List (List ℕ)) → ends a ≡ true → end_bytes (a ++ b) ≡ end_bytes a
unfolding ends
bytes_kept [] b h = absurd (true≢false (sym h))
bytes_kept (l ∷ a) b h = bytes_case l a b (is_end (says l)) refl (bytes_kept a b) h
