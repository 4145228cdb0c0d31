-- What the program holds stands for the lines read so far, none of which is the end or outside the form: from the first line to the last. Assumes nothing.
use Prim.Native.Nat.{ℕ, zero, suc, ◌≤◌}
use mathlib.Core.Path.{◌≡◌, refl, sym, ◌∙◌, ap}
use mathlib.Core.Bool.{Bool, true, false, cond, or-true, true≢false}
use mathlib.Core.Logic.{◌⊎◌, inl, inr}
use mathlib.Core.List.{List, [], ◌∷◌, ◌++◌, append-nil}
use native.Mathlib.Omega.{arith}
use lib.Dec.{eqb}
use lib.ListN.{length}
use borrow.Author.Tests.{eq-eqb, eqb-true}
use Rattle.pam_line.specs.declared.Key.{Key}
use Rattle.pam_line.specs.declared.Key.TheVariants.{Width, Height, Depth, Maxval}
use Rattle.pam_line.specs.declared.Said.{Said}
use Rattle.pam_line.specs.declared.Said.TheVariants as said
use Rattle.pam_line.specs.Line.{says}
use Rattle.pam_line.specs.Inner.{cut, held}
use Rattle.std.proofs.Common.{Option, Some, None, is_none}
use Rattle.pam_seen.specs.declared.Seen.{Seen}
use Rattle.pam_seen.specs.declared.State.{State}
use Rattle.pam_seen.specs.declared.State.TheVariants as state
use Rattle.pam_seen.specs.declared.Types.{Types}
use Rattle.pam_seen.specs.declared.Types.TheVariants as types
use Rattle.pam_seen.specs.Inner.{at, put, typed, stated, unread, type_again, after_line}
use Rattle.pam_header.specs.Header.{is_end, ends, is_outside, strays, place, numbers, given, type_of, types, few}
use Rattle.pam_header.proofs.Parts.{strays_append, given_append, types_append, ends_append}

-- how the program holds the numbers given for a key, and the types
abbrev pub code : List ℕ → Option ℕ
code [] = None
code (v ∷ vs) = Some (cut v)

abbrev pub type_code : List Bool → Types
type_code [] = types.Missing
type_code (true ∷ []) = types.RgbAlpha
type_code (false ∷ []) = types.Other
type_code (x ∷ y ∷ xs) = types.Other

pub record Standing (past : List (List ℕ)) (t : Seen) : Type 0 where
  pub goes_on : t.state ≡ state.GoesOn
  pub clean : strays past ≡ false
  pub no_end : ends past ≡ false
  pub each : (key : Key) → length (given key past) ≤ 1
  pub keys : (key : Key) → at t key ≡ code (given key past)
  pub kinds : t.types ≡ type_code (types past)

none_held : (key : Key) → at unread key ≡ None
none_held Width = refl
none_held Height = refl
none_held Depth = refl
none_held Maxval = refl

pub standing_first : Standing [] unread
unfolding strays ends given types
standing_first =
    record { goes_on = refl; clean = refl; no_end = refl; each = λ key. omega arith; keys = none_held; kinds = refl }

-- ---- one line more
put_at_lem : (t : Seen) (k j : Key) (v : ℕ) → at (put t j v) k ≡ cond (eqb (place k) (place j)) (Some v) (at t k)
put_at_lem t Width Width v = refl
put_at_lem t Width Height v = refl
put_at_lem t Width Depth v = refl
put_at_lem t Width Maxval v = refl
put_at_lem t Height Width v = refl
put_at_lem t Height Height v = refl
put_at_lem t Height Depth v = refl
put_at_lem t Height Maxval v = refl
put_at_lem t Depth Width v = refl
put_at_lem t Depth Height v = refl
put_at_lem t Depth Depth v = refl
put_at_lem t Depth Maxval v = refl
put_at_lem t Maxval Width v = refl
put_at_lem t Maxval Height v = refl
put_at_lem t Maxval Depth v = refl
put_at_lem t Maxval Maxval v = refl

place_is : (k j : Key) → place k ≡ place j → k ≡ j
place_is k j e = sym (named k) ∙ ap key_of e ∙ named j
  where
    key_of : ℕ → Key
    key_of zero = Width
    key_of (suc zero) = Height
    key_of (suc (suc zero)) = Depth
    key_of (suc (suc (suc n))) = Maxval

    named : (i : Key) → key_of (place i) ≡ i
    named Width = refl
    named Height = refl
    named Depth = refl
    named Maxval = refl

none_coded : (vs : List ℕ) → is_none (code vs) ≡ true → vs ≡ []
none_coded [] e = refl
none_coded (v ∷ vs) e = absurd (true≢false (sym e))

-- the states differ
not_ended : state.GoesOn ≡ state.Ended → ⊥
not_ended e = cc

not_outside : state.GoesOn ≡ state.Outside → ⊥
not_outside e = cc

never_both : state.Ended ≡ state.Outside → ⊥
never_both e = cc

state_put : (t : Seen) (j : Key) (v : ℕ) → ((put t j v).state ≡ t.state) × ((put t j v).types ≡ t.types)
state_put t Width v = (refl, refl)
state_put t Height v = (refl, refl)
state_put t Depth v = (refl, refl)
state_put t Maxval v = (refl, refl)

at_typed : (t : Seen) (n : Types) (k : Key) → at (typed t n) k ≡ at t k
at_typed t n Width = refl
at_typed t n Height = refl
at_typed t n Depth = refl
at_typed t n Maxval = refl

pub at_stated : (t : Seen) (n : State) (k : Key) → at (stated t n) k ≡ at t k
at_stated t n Width = refl
at_stated t n Height = refl
at_stated t n Depth = refl
at_stated t n Maxval = refl

types_more : (xs : List Bool) (x : Bool) → type_code (xs ++ (x ∷ [])) ≡ cond x (type_again (type_code xs)) types.Other
types_more [] true = refl
types_more [] false = refl
types_more (true ∷ []) true = refl
types_more (true ∷ []) false = refl
types_more (false ∷ []) true = refl
types_more (false ∷ []) false = refl
types_more (x ∷ y ∷ xs) true = refl
types_more (x ∷ y ∷ xs) false = refl

-- some line is outside the form, or some key has two numbers
abbrev pub Bad : List (List ℕ) → Type 0
Bad ls = (strays ls ≡ true) ⊎ ((key : Key) × (few (given key ls) ≡ false))

two_numbers : (vs : List ℕ) (v : ℕ) (ws : List ℕ) → is_none (code vs) ≡ false → few (vs ++ (v ∷ ws)) ≡ false
two_numbers [] v ws h = absurd (true≢false h)
two_numbers (w ∷ []) v ws h = refl
two_numbers (w ∷ x ∷ vs) v ws h = refl

module _ {past : List (List ℕ)} {t : Seen} (s : Standing past t) (l : List ℕ) where
  given_more : (key : Key) (x : Said) → says l ≡ x → given key (past ++ (l ∷ [])) ≡ given key past ++ numbers key x
  unfolding given
  given_more key x e =
      given_append key past (l ∷ []) ∙ ap (λ (vs : List ℕ). given key past ++ vs) (append-nil (numbers key (says l)) ∙ ap (numbers key) e)

  type_more : (x : Said) → says l ≡ x → types (past ++ (l ∷ [])) ≡ types past ++ type_of x
  unfolding types
  type_more x e = types_append past (l ∷ []) ∙ ap (λ (xs : List Bool). types past ++ xs) (append-nil (type_of (says l)) ∙ ap type_of e)

  clean_more : (x : Said) → says l ≡ x → is_outside x ≡ false → strays (past ++ (l ∷ [])) ≡ false
  unfolding strays
  clean_more x e h = strays_append past (l ∷ []) ∙ simp (s.clean, e, h)

  open_more : (x : Said) → says l ≡ x → is_end x ≡ false → ends (past ++ (l ∷ [])) ≡ false
  unfolding ends
  open_more x e h = ends_append past (l ∷ []) ∙ simp (s.no_end, e, h)

  -- a line that gives no number, or no type
  each_kept : (x : Said) → says l ≡ x → ((key : Key) → numbers key x ≡ []) → (key : Key) → given key (past ++ (l ∷ [])) ≡ given key past
  each_kept x e h key = given_more key x e ∙ ap (λ (vs : List ℕ). given key past ++ vs) (h key) ∙ append-nil (given key past)

  kinds_kept : (x : Said) → says l ≡ x → type_of x ≡ [] → types (past ++ (l ∷ [])) ≡ types past
  kinds_kept x e h = type_more x e ∙ ap (λ (xs : List Bool). types past ++ xs) h ∙ append-nil (types past)

  next_nothing : says l ≡ said.Nothing → Standing (past ++ (l ∷ [])) t
  next_nothing e =
      let kept = each_kept said.Nothing e (λ key. refl) in
      record {
        goes_on = s.goes_on;
        clean = clean_more said.Nothing e refl;
        no_end = open_more said.Nothing e refl;
        each = λ key. omega (arith, s.each key, ap length (kept key));
        keys = λ key. s.keys key ∙ ap code (sym (kept key));
        kinds = s.kinds ∙ ap type_code (sym (kinds_kept said.Nothing e refl));
      }

  next_type : (n : Types) (x : Said) (y : Bool) → says l ≡ x → is_outside x ≡ false → is_end x ≡ false → ((key : Key) → numbers key x ≡ []) → type_of x ≡ y ∷ [] → n ≡ cond y (type_again t.types) types.Other
      → Standing (past ++ (l ∷ [])) (typed t n)
  next_type n x y e out end none one is =
      let kept = each_kept x e none in
      let more : types (past ++ (l ∷ [])) ≡ types past ++ (y ∷ []) = type_more x e ∙ ap (λ (xs : List Bool). types past ++ xs) one in
      record {
        goes_on = s.goes_on;
        clean = clean_more x e out;
        no_end = open_more x e end;
        each = λ key. omega (arith, s.each key, ap length (kept key));
        keys = λ key. at_typed t n key ∙ s.keys key ∙ ap code (sym (kept key));
        kinds = is ∙ ap (λ (k : Types). cond y (type_again k) types.Other) s.kinds ∙ sym (ap type_code more ∙ types_more (types past) y);
      }

  next_number : (key : Key) (v : ℕ) → says l ≡ said.Number key v → is_none (at t key) ≡ true → Standing (past ++ (l ∷ [])) (put t key (cut v))
  next_number key v e new =
      record {
        goes_on = (state_put t key (cut v)).0 ∙ s.goes_on;
        clean = clean_more (said.Number key v) e refl;
        no_end = open_more (said.Number key v) e refl;
        each = λ k. (one k (eqb (place k) (place key)) refl).0;
        keys = λ k. (one k (eqb (place k) (place key)) refl).1;
        kinds = (state_put t key (cut v)).1 ∙ s.kinds ∙ ap type_code (sym (kinds_kept (said.Number key v) e refl));
      }
    where
      one : (k : Key) (x : Bool) → eqb (place k) (place key) ≡ x
          → (length (given k (past ++ (l ∷ []))) ≤ 1) × (at (put t key (cut v)) k ≡ code (given k (past ++ (l ∷ []))))
      one k true f =
          let is = place_is k key (eqb-true (place k) (place key) f) in
          let none : given k past ≡ [] = none_coded (given k past) (sym (ap is_none (s.keys k)) ∙ ap (λ (j : Key). is_none (at t j)) is ∙ new) in
          let all : given k (past ++ (l ∷ [])) ≡ v ∷ [] = given_more k (said.Number key v) e ∙ rw f (ap (λ (vs : List ℕ). vs ++ (v ∷ [])) none) in
          (omega (arith, ap length all), put_at_lem t k key (cut v) ∙ rw f (sym (ap code all)))
      one k false f =
          let all : given k (past ++ (l ∷ [])) ≡ given k past = given_more k (said.Number key v) e ∙ rw f (append-nil (given k past)) in
          (omega (arith, s.each k, ap length all), put_at_lem t k key (cut v) ∙ rw f (s.keys k ∙ sym (ap code all)))

  -- ---- by what the state is afterwards
  number_case : (key : Key) (v : ℕ) (x : Bool) → says l ≡ said.Number key v → is_none (at t key) ≡ x → (cond x (put t key (cut v)) (stated t state.Outside)).state ≡ state.GoesOn
      → Standing (past ++ (l ∷ [])) (cond x (put t key (cut v)) (stated t state.Outside))
  number_case key v true e f h = next_number key v e f
  number_case key v false e f h = absurd (not_outside (sym h))

  next_by : (x : Said) → says l ≡ x → (after_line t (held x)).state ≡ state.GoesOn → Standing (past ++ (l ∷ [])) (after_line t (held x))
  next_by said.Nothing e h = next_nothing e
  next_by (said.Number key v) e h = number_case key v (is_none (at t key)) e refl h
  next_by said.RgbAlpha e h = next_type _ said.RgbAlpha true e refl refl (λ key. refl) refl refl
  next_by said.OtherType e h = next_type types.Other said.OtherType false e refl refl (λ key. refl) refl refl
  next_by said.End e h = absurd (not_ended (sym h))
  next_by said.Outside e h = absurd (not_outside (sym h))

  pub standing_next : (u : Seen) → u ≡ after_line t (held (says l)) → u.state ≡ state.GoesOn → Standing (past ++ (l ∷ [])) u
  standing_next u e h = rw e (next_by (says l) refl (rw e at h))

  number_bad : (key : Key) (v : ℕ) (x : Bool) → says l ≡ said.Number key v → is_none (at t key) ≡ x → (cond x (put t key (cut v)) (stated t state.Outside)).state ≡ state.Outside
      → (rest : List (List ℕ)) → Bad (past ++ (l ∷ rest))
  unfolding given
  number_bad key v true e f h rest = absurd (not_outside (sym ((state_put t key (cut v)).0 ∙ s.goes_on) ∙ h))
  number_bad key v false e f h rest =
      let two = two_numbers (given key past) v (given key rest) (sym (ap is_none (s.keys key)) ∙ f) in
      let one : numbers key (says l) ≡ v ∷ [] = ap (numbers key) e ∙ rw (eq-eqb (place key) (place key) refl) refl in
      inr (key, ap few (given_append key past (l ∷ rest) ∙ ap (λ (vs : List ℕ). given key past ++ (vs ++ given key rest)) one) ∙ two)

  bad_by : (x : Said) → says l ≡ x → (after_line t (held x)).state ≡ state.Outside → (is_end x ≡ false) × ((rest : List (List ℕ)) → Bad (past ++ (l ∷ rest)))
  unfolding strays
  bad_by said.Nothing e h = absurd (not_outside (sym s.goes_on ∙ h))
  bad_by (said.Number key v) e h = (refl, number_bad key v (is_none (at t key)) e refl h)
  bad_by said.RgbAlpha e h = absurd (not_outside (sym s.goes_on ∙ h))
  bad_by said.OtherType e h = absurd (not_outside (sym s.goes_on ∙ h))
  bad_by said.End e h = absurd (never_both h)
  bad_by said.Outside e h = (refl, λ rest. inl (strays_append past (l ∷ rest) ∙ rw e (or-true (strays past))))

  pub standing_bad : (u : Seen) → u ≡ after_line t (held (says l)) → u.state ≡ state.Outside → (is_end (says l) ≡ false) × ((rest : List (List ℕ)) → Bad (past ++ (l ∷ rest)))
  standing_bad u e h = bad_by (says l) refl (rw e at h)

  number_end : (key : Key) (v : ℕ) (x : Bool) → (cond x (put t key (cut v)) (stated t state.Outside)).state ≡ state.Ended → ⊥
  number_end key v true h = not_ended (sym ((state_put t key (cut v)).0 ∙ s.goes_on) ∙ h)
  number_end key v false h = never_both (sym h)

  end_by : (x : Said) → (after_line t (held x)).state ≡ state.Ended → (is_end x ≡ true) × (after_line t (held x) ≡ stated t state.Ended)
  end_by said.Nothing h = absurd (not_ended (sym s.goes_on ∙ h))
  end_by (said.Number key v) h = absurd (number_end key v (is_none (at t key)) h)
  end_by said.RgbAlpha h = absurd (not_ended (sym s.goes_on ∙ h))
  end_by said.OtherType h = absurd (not_ended (sym s.goes_on ∙ h))
  end_by said.End h = (refl, refl)
  end_by said.Outside h = absurd (never_both (sym h))

  pub standing_end : (u : Seen) → u ≡ after_line t (held (says l)) → u.state ≡ state.Ended → (is_end (says l) ≡ true) × (u ≡ stated t state.Ended)
  standing_end u e h = let (end, is) = end_by (says l) (rw e at h) in (end, e ∙ is)
