-- A header read line by line: what holds before each line, and each way out. Assumes nothing.
use Prim.Native.Nat.{ℕ, suc, ◌+◌, ◌≤◌, ◌<◌}
use mathlib.Core.Path.{◌≡◌, refl, sym, ◌∙◌, ap, ap₂}
use mathlib.Core.Bool.{Bool, true, false, not, cond, ◌&&◌, ◌||◌, or-true, and-false}
use mathlib.Core.Logic.{inl, inr}
use mathlib.Core.List.{List, [], ◌∷◌, ◌++◌, append-nil, append_assoc}
use native.Mathlib.Omega.{arith}
use native.Mathlib.Numerals.{add-one}
use lib.Dec.{eqb}
use lib.ListN.{length, take, drop, length-drop}
use lib.Seq.{drop-drop, length-take-le}
use Rattle.pixels.specs.declared.Refusal.TheVariants.{PamMalformed}
use Rattle.pixels.specs.Refusals.{no_size, size_if}
use Rattle.pixels.specs.Sizes.{bad_side, bad_size, size_of}
use borrow.Author.Tests.{eqb-true}
use Rattle.pixels.proofs.Causes.{first_at, none_applies}
use Rattle.pixels.proofs.Truths.{neither_true}
use Rattle.pixels.proofs.Numbers.{not_zero}
use Rattle.pam_text.specs.declared.Class.TheVariants.{Inside}
use Rattle.pam_text.specs.Text.{run_length, same_text}
use Rattle.pam_line.specs.declared.Key.{Key}
use Rattle.pam_line.specs.declared.Key.TheVariants.{Width, Height, Depth, Maxval}
use Rattle.pam_line.specs.Line.{text_p7, says}
use Rattle.pam_line.specs.Inner.{held}
use Rattle.pam_seen.specs.declared.Seen.{Seen}
use Rattle.pam_seen.specs.Inner.{at, unread, after_line}
use Rattle.pam_seen.specs.declared.Types.{Types}
use Rattle.std.proofs.Common.{Option, None, Ok, Err, is_none}
use Rattle.pam_seen.specs.declared.State.TheVariants as state
use Rattle.pam_header.specs.Header.{lines, opens, others, is_end, ends, before_end, end_bytes, strays, given, types, once, few, the, keys_fail, header, malformed, unsupported, size_said, header_causes, header_number, header_size, header_start, header_unfinished, first_bytes, pixels_from, start_if, Answer, answer_number, answer_size, answer_start, answer_unfinished}
use Rattle.pam_header.specs.Inner.{key_missing, number_held, is_rgb_alpha, other_kind, verdict_causes, verdict_number, verdict_size, verdict_start, size_held}
use Rattle.pam_header.proofs.Lines.{lines_split, lines_none}
use Rattle.pam_header.proofs.Parts.{ends_append, bytes, bytes_append, before_past, bytes_past}
use Rattle.pam_header.proofs.Standing.{Standing, Bad, code, type_code, at_stated, standing_first, standing_next, standing_bad, standing_end}
use Rattle.pam_header.proofs.Verdicts.{Verdict, once_code, the_code, kind_code, side_code, side_held}

-- the answer r is that of the text
abbrev pub Told : List ℕ → Answer → Type 0
Told s r = record {
  number : answer_number r ≡ header_number s;
  size : answer_size r ≡ header_size s;
  start : answer_start r ≡ header_start s;
  unfinished : answer_unfinished r ≡ header_unfinished s;
}

-- ---- outside the form
module _ (s : List ℕ) (bad : malformed s ≡ true) where
  pub eleven : header_number s ≡ 11
  unfolding header_number
  eleven = first_at (header_causes s) 0 tt bad

  none_there : (no_size ≡ header_size s) × (0 ≡ header_start s)
  unfolding header_size header_start
  none_there = (simp (not_zero PamMalformed (header_number s) eleven), simp (not_zero PamMalformed (header_number s) eleven))

  told_malformed : header_unfinished s ≡ false → Told s (Err PamMalformed)
  told_malformed e = record { number = sym eleven; size = none_there.0; start = none_there.1; unfinished = sym e }

  told_unfinished : header_unfinished s ≡ true → Told s (Ok None)
  told_unfinished e = record { number = sym eleven; size = none_there.0; start = none_there.1; unfinished = sym e }

not_opened : (s : List ℕ) → opens (lines s) ≡ false → Told s (Err PamMalformed)
unfolding malformed header_unfinished
not_opened s e = told_malformed s (simp e) (simp e)

-- ---- some key fails
key_fails : (good : List ℕ → Bool) (ls : List (List ℕ)) (key : Key) → good (given key ls) ≡ false → keys_fail good ls ≡ true
key_fails good ls Width e = simp e
key_fails good ls Height e = simp (e, or-true)
key_fails good ls Depth e = simp (e, or-true)
key_fails good ls Maxval e = simp (e, or-true)

few_once : (vs : List ℕ) → few vs ≡ false → once vs ≡ false
few_once [] e = refl
few_once (v ∷ []) e = e
few_once (v ∷ w ∷ vs) e = refl

few_of : (vs : List ℕ) → length vs ≤ 1 → few vs ≡ true
few_of [] h = refl
few_of (v ∷ []) h = refl
few_of (v ∷ w ∷ vs) h = absurd (omega (arith, h))

pub bad_once : (ls : List (List ℕ)) → Bad ls → (strays ls || keys_fail once ls) ≡ true
bad_once ls (inl e) = simp e
bad_once ls (inr (key, e)) = simp (key_fails once ls key (few_once (given key ls) e), or-true)

bad_few : (ls : List (List ℕ)) → Bad ls → (not (strays ls) && not (keys_fail few ls)) ≡ false
bad_few ls (inl e) = simp e
bad_few ls (inr (key, e)) = simp (key_fails few ls key e, and-false)

-- ---- before each line
pub record Going (s : List ℕ) (t : Seen) (start : ℕ) : Type 0 where
  pub within : start ≤ length s
  pub opened : opens (lines s) ≡ true
  pub past : List (List ℕ)
  pub whole : others (lines s) ≡ past ++ lines (drop start s)
  pub begins : start ≡ first_bytes (lines s) + bytes past
  pub standing : Standing past t

-- the first line, over what the calls gave
module _ (s : List ℕ) (f : ℕ) (ef : f ≡ run_length Inside s) where
  pub begin_none : length s ≤ f → Told s (Err PamMalformed)
  begin_none h = not_opened s (ap opens (lines_none s (omega (arith, ef, h))))

  module _ (top : List ℕ) (et : top ≡ take f s) (h : f < length s) where
    split : lines s ≡ top ∷ lines (drop (f + 1) s)
    split =
        lines_split s (omega (arith, ef, h))
        ∙ ap₂ (λ (l r : List ℕ). l ∷ lines r) (ap (λ (k : ℕ). take k s) (sym ef) ∙ sym et) (ap (λ (k : ℕ). drop k s) (sym (add-one (run_length Inside s)) ∙ ap (λ (k : ℕ). k + 1) (sym ef)))

    pub begin_other : same_text top text_p7 ≡ false → Told s (Err PamMalformed)
    begin_other e = not_opened s (ap opens split ∙ e)

    pub begin : same_text top text_p7 ≡ true → Going s unread (f + 1)
    unfolding bytes
    begin e =
        let long : length top ≡ f = ap length et ∙ length-take-le f s (omega (arith, h)) in
        record {
          within = omega arith;
          opened = ap opens split ∙ e;
          past = [];
          whole = ap others split;
          begins = omega (arith, long, ap first_bytes split);
          standing = standing_first;
        }

module _ {s : List ℕ} {t : Seen} {start : ℕ} (g : Going s t start) (tail : List ℕ) (m : ℕ) (et : tail ≡ drop start s) (em : m ≡ run_length Inside tail) where
  -- ---- no line follows
  module _ (h : length tail ≤ m) where
    all_read : others (lines s) ≡ g.past
    all_read =
        g.whole ∙ ap (λ (ls : List (List ℕ)). g.past ++ ls) (ap lines (sym et) ∙ lines_none tail (omega (arith, em, h))) ∙ append-nil g.past

    keys_few : keys_fail few g.past ≡ false
    keys_few =
        let each : (key : Key) → few (given key g.past) ≡ true = λ key. few_of (given key g.past) (g.standing.each key) in
        simp (each Width, each Height, each Depth, each Maxval)

    pub turn_none : Told s (Ok None)
    unfolding malformed header_unfinished
    turn_none =
        let open-end : ends (others (lines s)) ≡ false = ap ends all_read ∙ g.standing.no_end in
        let clean : strays (others (lines s)) ≡ false = ap strays all_read ∙ g.standing.clean in
        let keys : keys_fail few (others (lines s)) ≡ false = ap (keys_fail few) all_read ∙ keys_few in
        told_unfinished s (simp (g.opened, open-end)) (simp (g.opened, open-end, clean, keys))

  pub turn_fits : m < length tail → start + m + 1 ≤ length s
  turn_fits h = omega (arith, h, ap length et, length-drop start s, g.within)

  -- ---- a line follows
  module _ (line : List ℕ) (u : Seen) (h : m < length tail) (el : line ≡ take m tail) (eu : u ≡ after_line t (held (says line))) where
    abbrev rest : List (List ℕ)
    rest = lines (drop (start + m + 1) s)

    line_split : lines (drop start s) ≡ line ∷ rest
    line_split =
        let after : drop (suc (run_length Inside tail)) tail ≡ drop (start + m + 1) s = ap₂ drop (ap suc (sym em)) et ∙ drop-drop (suc m) start s ∙ ap (λ (k : ℕ). drop k s) {x = start + suc m} {y = start + m + 1} (omega arith) in
        ap lines (sym et) ∙ lines_split tail (omega (arith, em, h)) ∙ ap₂ (λ (l r : List ℕ). l ∷ lines r) (ap (λ (k : ℕ). take k tail) (sym em) ∙ sym el) after

    goes : others (lines s) ≡ g.past ++ (line ∷ rest)
    goes = g.whole ∙ ap (λ (ls : List (List ℕ)). g.past ++ ls) line_split

    long : length line ≡ m
    long = ap length el ∙ length-take-le m tail (omega (arith, h))

    pub turn_bad : u.state ≡ state.Outside → Told s (Err PamMalformed)
    unfolding malformed header_unfinished before_end
    turn_bad e =
        let (no_end, bad) = standing_bad g.standing line u eu e in
        let lead : header s ≡ g.past ++ (line ∷ before_end rest) = ap before_end goes ∙ before_past g.past (line ∷ rest) g.standing.no_end ∙ rw no_end refl in
        let wrong : (strays (header s) || keys_fail once (header s)) ≡ true = ap (λ (ls : List (List ℕ)). strays ls || keys_fail once ls) lead ∙ bad_once (g.past ++ (line ∷ before_end rest)) (bad (before_end rest)) in
        let never : (not (strays (others (lines s))) && not (keys_fail few (others (lines s)))) ≡ false = ap (λ (ls : List (List ℕ)). not (strays ls) && not (keys_fail few ls)) goes ∙ bad_few (g.past ++ (line ∷ rest)) (bad rest) in
        told_malformed s (simp (wrong, or-true)) (simp (never, and-false))

    pub turn_on : u.state ≡ state.GoesOn → Going s u (start + m + 1)
    unfolding bytes
    turn_on e =
        record {
          within = turn_fits h;
          opened = g.opened;
          past = g.past ++ (line ∷ []);
          whole = goes ∙ sym (append_assoc g.past (line ∷ []) rest);
          begins = omega (arith, g.begins, long, bytes_append g.past (line ∷ []));
          standing = standing_next g.standing line u eu e;
        }

    -- ---- the last line
    module _ (e : u.state ≡ state.Ended) where
      is_end_lem : is_end (says line) ≡ true
      is_end_lem = (standing_end g.standing line u eu e).0

      lead_all : header s ≡ g.past
      unfolding before_end
      lead_all = ap before_end goes ∙ before_past g.past (line ∷ rest) g.standing.no_end ∙ rw is_end_lem (append-nil g.past)

      ended : ends (others (lines s)) ≡ true
      unfolding ends
      ended = ap ends goes ∙ ends_append g.past (line ∷ rest) ∙ rw is_end_lem (or-true (ends g.past))

      last_bytes : end_bytes (line ∷ rest) ≡ m + 1
      unfolding end_bytes
      last_bytes = rw is_end_lem (omega (arith, long))

      from : pixels_from s ≡ start + m + 1
      from = omega (arith, g.begins, last_bytes, ap end_bytes goes ∙ bytes_past g.past (line ∷ rest) g.standing.no_end)

      key_held : (key : Key) → at u key ≡ code (given key (header s))
      key_held key =
          ap (λ (x : Seen). at x key) (standing_end g.standing line u eu e).1
          ∙ at_stated t state.Ended key
          ∙ g.standing.keys key
          ∙ ap (λ (ls : List (List ℕ)). code (given key ls)) (sym lead_all)

      kinds_held : u.types ≡ type_code (types (header s))
      kinds_held =
          ap (λ (x : Seen). x.types) (standing_end g.standing line u eu e).1
          ∙ g.standing.kinds
          ∙ ap (λ (ls : List (List ℕ)). type_code (types ls)) (sym lead_all)

      key_missing_lem : (key : Key) → not (once (given key (header s))) ≡ is_none (at u key)
      key_missing_lem key =
          let one : length (given key (header s)) ≤ 1 = rw lead_all (g.standing.each key) in
          once_code (given key (header s)) one ∙ ap is_none (sym (key_held key))

      missing_is : malformed s ≡ key_missing u
      unfolding malformed
      missing_is =
          let clean : strays (header s) ≡ false = ap strays lead_all ∙ g.standing.clean in
          let gone : malformed s ≡ keys_fail once (header s) = simp (g.opened, ended, clean) in
          gone ∙ ap₂ ◌||◌ (key_missing_lem Width) (ap₂ ◌||◌ (key_missing_lem Height) (ap₂ ◌||◌ (key_missing_lem Depth) (key_missing_lem Maxval)))

      kind_is : unsupported s ≡ other_kind u
      unfolding unsupported
      kind_is =
          let depth = the_code 4 (given Depth (header s)) (omega arith) ∙ ap (λ (n : Option ℕ). eqb (number_held n) 4) (sym (key_held Depth)) in
          let maxval = the_code 255 (given Maxval (header s)) (omega arith) ∙ ap (λ (n : Option ℕ). eqb (number_held n) 255) (sym (key_held Maxval)) in
          let kind = kind_code (types (header s)) ∙ ap (λ (k : Types). not (is_rgb_alpha k)) (sym kinds_held) in
          ap₂ ◌||◌ (ap not depth) (ap₂ ◌||◌ (ap not maxval) kind)

      side_is : (key : Key) → bad_side (the (given key (header s))) ≡ bad_side (number_held (at u key))
      side_is key = side_code (given key (header s)) ∙ ap (λ (n : Option ℕ). bad_side (number_held n)) (sym (key_held key))

      size_is : bad_size (size_said s) ≡ bad_size (size_held u)
      unfolding bad_size
      size_is = ap₂ ◌||◌ (side_is Width) (side_is Height)

      number_is : header_number s ≡ verdict_number u
      unfolding header_number verdict_number
      number_is = rw missing_is (rw kind_is (rw size_is refl))

      side_true : (key : Key) → bad_side (number_held (at u key)) ≡ false → number_held (at u key) ≡ the (given key (header s))
      side_true key f =
          let held-side : bad_side (number_held (code (given key (header s)))) ≡ false = ap (λ (n : Option ℕ). bad_side (number_held n)) (sym (key_held key)) ∙ f in
          ap number_held (key_held key) ∙ side_held (given key (header s)) held-side

      size_by : (x : Bool) → eqb (verdict_number u) 0 ≡ x → cond x (size_held u) no_size ≡ cond x (size_said s) no_size
      unfolding verdict_number bad_size
      size_by false f = refl
      size_by true f =
          let p = none_applies (verdict_causes u) (eqb-true (verdict_number u) 0 f) in
          let (w, h) = neither_true (bad_side (number_held u.width)) (bad_side (number_held u.height)) p.1.1.0 in
          ap₂ size_of (side_true Width w) (side_true Height h)

      pub turn_end : (r : Answer) → Verdict u (start + m + 1) r → Told s r
      unfolding header_size header_start header_unfinished verdict_size verdict_start
      turn_end r v =
          let sized = size_by (eqb (verdict_number u) 0) refl ∙ ap (λ (k : ℕ). size_if k (size_said s)) (sym number_is) in
          let placed = ap₂ start_if (sym number_is) (sym from) in
          let over : header_unfinished s ≡ false = simp (g.opened, ended) in
          record { number = v.number ∙ sym number_is; size = v.size ∙ sized; start = v.start ∙ placed; unfinished = v.unfinished ∙ sym over }
