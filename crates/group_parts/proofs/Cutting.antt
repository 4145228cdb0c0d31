-- A list cut into parts: a part's change is seen in that part alone. Assumes nothing.
use Prim.Native.Nat.{ℕ, zero, suc, ◌+◌, ◌*◌, ◌-◌, ◌≤◌, ◌<◌}
use mathlib.Core.Path.{◌≡◌, refl, sym, ◌∙◌, ap}
use mathlib.Core.List.{List, [], ◌∷◌, ◌++◌}
use mathlib.Core.Logic.{⊎_elim}
use native.Mathlib.Omega.{arith}
use native.Mathlib.Nat.{eq-or-lt_of_le, le_of_suc-le-suc}
use lib.ListN.{length, take, drop, length-drop, take-append-drop}
use lib.Seq.{length-take-le, drop-drop, take_at, drop_at, take-take, take-add}
use borrow.Rule.Slice.PartMut.{same_len_mid, take_put}
use Rattle.group_parts.specs.Parts.{offset, part_at, put_at, each_part}

pub offset_zero : (n : ℕ → ℕ) → offset n 0 ≡ 0
unfolding offset
offset_zero n = refl

pub offset_suc : (n : ℕ → ℕ) (i : ℕ) → offset n (suc i) ≡ offset n i + n i
unfolding offset
offset_suc n i = refl

-- i parts of at most m values
pub offset_most : (n : ℕ → ℕ) (m i : ℕ) → ((k : ℕ) → k < i → n k ≤ m) → offset n i ≤ i * m
offset_most n m zero h = rw (offset_zero n) (omega arith)
offset_most n m (suc i) h = rw (offset_suc n i) (omega (arith, offset_most n m i (λ k l. h k (omega arith)), h i (omega arith)))

-- parts follow each other
pub offset_mono : (n : ℕ → ℕ) (i k : ℕ) → offset n i ≤ offset n (i + k)
offset_mono n i zero = let e : i + 0 ≡ i = omega arith in rw e (omega arith)
offset_mono n i (suc k) = let e : i + suc k ≡ suc (i + k) = omega arith in rw e (rw (offset_suc n (i + k)) (omega (arith, offset_mono n i k)))

pub offset_next : (n : ℕ → ℕ) (i m : ℕ) → i < m → offset n i + n i ≤ offset n m
offset_next n i m l =
    let e : suc i + (m - suc i) ≡ m = omega arith in
    let q : offset n (suc i) ≤ offset n m = rw e at (offset_mono n (suc i) (m - suc i)) in
    rw (offset_suc n i) at q

-- ---- a part put in place of another

-- a part within the first b values
pub part_within : (a k b : ℕ) (z : List ℕ) → a + k ≤ b → take k (drop a (take b z)) ≡ take k (drop a z)
part_within zero k b z l = take-take k b z (omega arith)
part_within (suc a) k zero z l = absurd (omega arith)
part_within (suc a) k (suc b) [] l = refl
part_within (suc a) k (suc b) (x ∷ z) l = part_within a k b z (omega arith)

-- it is not seen before
pub put_before : (a k b m : ℕ) (xs ys : List ℕ) → a + k ≤ b → b ≤ length xs → take k (drop a (put_at b m xs ys)) ≡ take k (drop a xs)
put_before a k b m xs ys l h =
    sym (part_within a k b (put_at b m xs ys) l)
    ∙ ap (λ (z : List ℕ). take k (drop a z)) (take_put b m xs ys h)
    ∙ part_within a k b xs l

-- it is what stands there
pub put_there : (b m : ℕ) (xs ys : List ℕ) → b ≤ length xs → length ys ≡ m → take m (drop b (put_at b m xs ys)) ≡ ys
put_there b m xs ys h e =
    ap (λ (z : List ℕ). take m z) (drop_at (take b xs) (ys ++ drop m (drop b xs)) b (length-take-le b xs h))
    ∙ take_at ys (drop m (drop b xs)) m e

-- it is not seen after
pub put_after : (b m : ℕ) (xs ys : List ℕ) → b ≤ length xs → length ys ≡ m → drop (b + m) (put_at b m xs ys) ≡ drop (b + m) xs
put_after b m xs ys h e =
    sym (drop-drop m b (put_at b m xs ys))
    ∙ ap (λ (z : List ℕ). drop m z) (drop_at (take b xs) (ys ++ drop m (drop b xs)) b (length-take-le b xs h))
    ∙ drop_at ys (drop m (drop b xs)) m e
    ∙ drop-drop m b xs

pub part_after : (b k : ℕ) (n : ℕ) (x y : List ℕ) → drop b x ≡ drop b y → take k (drop (b + n) x) ≡ take k (drop (b + n) y)
part_after b k n x y e = ap (λ (z : List ℕ). take k z) (sym (drop-drop n b x) ∙ ap (λ (z : List ℕ). drop n z) e ∙ drop-drop n b y)

pub part_long : (a k : ℕ) (x : List ℕ) → a + k ≤ length x → length (take k (drop a x)) ≡ k
part_long a k x l = length-take-le k (drop a x) (rw (length-drop a x) (omega arith))

-- one part more
pub each_more : (n : ℕ → ℕ) (f : ℕ → List ℕ → List ℕ) (i : ℕ) (w : List ℕ) (at d : ℕ) (v ys : List ℕ)
    → at ≡ offset n i → d ≡ n i → v ≡ each_part n f i w → ys ≡ f i (take d (drop at v)) → put_at at d v ys ≡ each_part n f (suc i) w
unfolding each_part
each_more n f i w at d v ys e1 e2 e3 e4 = rw (e4, e1, e2, e3)

pub each_none : (n : ℕ → ℕ) (f : ℕ → List ℕ → List ℕ) (w : List ℕ) → each_part n f 0 w ≡ w
unfolding each_part
each_none n f w = refl

pub each_open : (n : ℕ → ℕ) (f : ℕ → List ℕ → List ℕ) (i : ℕ) (w : List ℕ)
    → each_part n f (suc i) w ≡ put_at (offset n i) (n i) (each_part n f i w) (f i (part_at n i (each_part n f i w)))
unfolding each_part
each_open n f i w = refl

-- ---- where each change keeps its part's length

module _ (n : ℕ → ℕ) (f : ℕ → List ℕ → List ℕ) (keeps : (i : ℕ) (x : List ℕ) → length x ≡ n i → length (f i x) ≡ n i) where
  module _ (i : ℕ) (v : List ℕ) (h : offset n (suc i) ≤ length v) where
    fits : offset n i + n i ≤ length v
    fits = rw (offset_suc n i) at h

    before : length (part_at n i v) ≡ n i
    before = part_long (offset n i) (n i) v fits

    after : length (f i (part_at n i v)) ≡ n i
    after = keeps i (part_at n i v) before

  pub each_length : (i : ℕ) (w : List ℕ) → offset n i ≤ length w → length (each_part n f i w) ≡ length w
  each_length zero w h = rw (each_none n f w)
  each_length (suc i) w h =
      let v : List ℕ = each_part n f i w in
      let e : length v ≡ length w = each_length i w (omega (arith, fits i w h)) in
      let g : offset n (suc i) ≤ length v = rw e h in
      ap length (each_open n f i w)
      ∙ same_len_mid (offset n i) (n i) v (f i (part_at n i v)) (after i v g ∙ sym (before i v g))
      ∙ e

  -- the list that the change of part i finds is as long as at first
  module _ (i : ℕ) (w : List ℕ) (h : offset n (suc i) ≤ length w) where
    next_fits : offset n (suc i) ≤ length (each_part n f i w)
    next_fits = rw (each_length i w (omega (arith, fits i w h))) h

    in_whole : offset n i ≤ length (each_part n f i w)
    in_whole = omega (arith, fits i (each_part n f i w) next_fits)

    long : length (f i (part_at n i (each_part n f i w))) ≡ n i
    long = after i (each_part n f i w) next_fits

  -- what lies after the first i parts is as it was
  pub each_rest : (i : ℕ) (w : List ℕ) → offset n i ≤ length w → drop (offset n i) (each_part n f i w) ≡ drop (offset n i) w
  each_rest zero w h = rw (each_none n f w)
  each_rest (suc i) w h =
      let v : List ℕ = each_part n f i w in
      rw (each_open n f i w, offset_suc n i)
      (put_after (offset n i) (n i) v (f i (part_at n i v)) (in_whole i w h) (long i w h)
      ∙ sym (drop-drop (n i) (offset n i) v)
      ∙ ap (λ (z : List ℕ). drop (n i) z) (each_rest i w (omega (arith, fits i w h)))
      ∙ drop-drop (n i) (offset n i) w)

  -- each part is its own change of what stood there
  pub each_part_lem : (i k : ℕ) (w : List ℕ) → offset n i ≤ length w → k < i → part_at n k (each_part n f i w) ≡ f k (part_at n k w)
  each_part_lem zero k w h l = absurd (omega arith)
  each_part_lem (suc i) k w h l =
      let v : List ℕ = each_part n f i w in
      let m : offset n i ≤ length w = omega (arith, fits i w h) in
      rw (each_open n f i w)
      (⊎_elim
      (λ e. rw e (put_there (offset n i) (n i) v (f i (part_at n i v)) (in_whole i w h) (long i w h)
      ∙ ap (λ (z : List ℕ). f i (take (n i) z)) (each_rest i w m)))
      (λ b. put_before (offset n k) (n k) (offset n i) (n i) v (f i (part_at n i v)) (offset_next n k i b) (in_whole i w h)
      ∙ each_part_lem i k w m b)
      (eq-or-lt_of_le (le_of_suc-le-suc l)))

-- ---- a list is known by its parts and what lies after them

parts_take : (n : ℕ → ℕ) (k : ℕ) (v w : List ℕ) → ((i : ℕ) → i < k → part_at n i v ≡ part_at n i w) → take (offset n k) v ≡ take (offset n k) w
parts_take n zero v w h = rw (offset_zero n)
parts_take n (suc k) v w h =
    rw (offset_suc n k)
    (take-add (offset n k) (n k) v
    ∙ ap (λ (z : List ℕ). z ++ part_at n k v) (parts_take n k v w (λ i l. h i (omega arith)))
    ∙ ap (λ (z : List ℕ). take (offset n k) w ++ z) (h k (omega arith))
    ∙ sym (take-add (offset n k) (n k) w))

pub parts_same : (n : ℕ → ℕ) (k : ℕ) (v w : List ℕ) → ((i : ℕ) → i < k → part_at n i v ≡ part_at n i w)
    → drop (offset n k) v ≡ drop (offset n k) w → v ≡ w
parts_same n k v w h e =
    sym (take-append-drop (offset n k) v)
    ∙ ap (λ (z : List ℕ). z ++ drop (offset n k) v) (parts_take n k v w h)
    ∙ ap (λ (z : List ℕ). take (offset n k) w ++ z) e
    ∙ take-append-drop (offset n k) w

module _ (n : ℕ → ℕ) (f g : ℕ → List ℕ → List ℕ)
    (f-keeps : (i : ℕ) (x : List ℕ) → length x ≡ n i → length (f i x) ≡ n i)
    (g-keeps : (i : ℕ) (x : List ℕ) → length x ≡ n i → length (g i x) ≡ n i)
    (k : ℕ) (w : List ℕ) (room : offset n k ≤ length w) where
  -- the same change of each part
  pub each_same : ((i : ℕ) → i < k → f i (part_at n i w) ≡ g i (part_at n i w)) → each_part n f k w ≡ each_part n g k w
  each_same h =
      parts_same n k (each_part n f k w) (each_part n g k w)
      (λ i l. each_part_lem n f f-keeps k i w room l ∙ h i l ∙ sym (each_part_lem n g g-keeps k i w room l))
      (each_rest n f f-keeps k w room ∙ sym (each_rest n g g-keeps k w room))

  abbrev both : ℕ → List ℕ → List ℕ
  both i x = f i (g i x)

  both_keeps : (i : ℕ) (x : List ℕ) → length x ≡ n i → length (both i x) ≡ n i
  both_keeps i x e = f-keeps i (g i x) (g-keeps i x e)

  -- all parts changed and changed again are each part changed twice
  pub each_twice : each_part n f k (each_part n g k w) ≡ each_part n (λ i x. f i (g i x)) k w
  each_twice =
      let m : offset n k ≤ length (each_part n g k w) = rw (each_length n g g-keeps k w room) room in
      parts_same n k (each_part n f k (each_part n g k w)) (each_part n both k w)
      (λ i l.
      each_part_lem n f f-keeps k i (each_part n g k w) m l
      ∙ ap (f i) (each_part_lem n g g-keeps k i w room l)
      ∙ sym (each_part_lem n both both_keeps k i w room l))
      (each_rest n f f-keeps k (each_part n g k w) m
      ∙ each_rest n g g-keeps k w room
      ∙ sym (each_rest n both both_keeps k w room))

-- changes that change nothing
pub each_kept : (n : ℕ → ℕ) (f : ℕ → List ℕ → List ℕ) → ((i : ℕ) (x : List ℕ) → f i x ≡ x) → (k : ℕ) (w : List ℕ) → each_part n f k w ≡ w
each_kept n f h zero w = each_none n f w
each_kept n f h (suc k) w =
    let v : List ℕ = each_part n f k w in
    each_open n f k w
    ∙ ap (λ (z : List ℕ). put_at (offset n k) (n k) v z) (h k (part_at n k v))
    ∙ ap (λ (z : List ℕ). take (offset n k) v ++ z) (take-append-drop (n k) (drop (offset n k) v))
    ∙ take-append-drop (offset n k) v
    ∙ each_kept n f h k w

-- ---- the same lengths, cut alike
pub offset_cong : (n m : ℕ → ℕ) → ((k : ℕ) → n k ≡ m k) → (i : ℕ) → offset n i ≡ offset m i
offset_cong n m h zero = offset_zero n ∙ sym (offset_zero m)
offset_cong n m h (suc i) = rw (offset_suc n i, offset_suc m i) (let a = offset_cong n m h i in let b = h i in omega arith)

pub part_cong : (n m : ℕ → ℕ) → ((k : ℕ) → n k ≡ m k) → (i : ℕ) (w : List ℕ) → part_at n i w ≡ part_at m i w
part_cong n m h i w = ap (λ (x : ℕ). take x (drop (offset n i) w)) (h i) ∙ ap (λ (x : ℕ). take (m i) (drop x w)) (offset_cong n m h i)

pub part_append : (a k : ℕ) (x y : List ℕ) → a + k ≤ length x → take k (drop a (x ++ y)) ≡ take k (drop a x)
part_append a k x y l = sym (part_within a k (length x) (x ++ y) l) ∙ ap (λ (z : List ℕ). take k (drop a z)) (take_at x y (length x) refl)

pub put_later : (a k b m : ℕ) (xs ys : List ℕ) → b + m ≤ a → b ≤ length xs → length ys ≡ m → take k (drop a (put_at b m xs ys)) ≡ take k (drop a xs)
put_later a k b m xs ys l h e =
    let z : b + m + (a - (b + m)) ≡ a = omega arith in
    rw z at (part_after (b + m) k (a - (b + m)) (put_at b m xs ys) xs (put_after b m xs ys h e))

-- a part as the code cuts it, and put back
pub cut_is : (n : ℕ → ℕ) (k at m : ℕ) (w : List ℕ) → at ≡ offset n k → m ≡ n k → take (at + m - at) (drop at w) ≡ part_at n k w
cut_is n k at m w e f =
    let d : at + m - at ≡ n k = omega arith in
    ap (λ (x : ℕ). take x (drop at w)) d ∙ ap (λ (x : ℕ). take (n k) (drop x w)) e

pub put_is : (n : ℕ → ℕ) (k at m : ℕ) (w ys zs : List ℕ) → at ≡ offset n k → m ≡ n k → ys ≡ zs → put_at at (at + m - at) w ys ≡ put_at (offset n k) (n k) w zs
put_is n k at m w ys zs e f g =
    let d : at + m - at ≡ n k = omega arith in
    ap (λ (x : ℕ). put_at at x w ys) d ∙ ap (λ (x : ℕ). put_at x (n k) w ys) e ∙ ap (λ (y : List ℕ). put_at (offset n k) (n k) w y) g
