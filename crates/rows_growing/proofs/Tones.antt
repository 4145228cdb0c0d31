-- A pixel's lanes: a colour with nothing or-ed to its alpha is matted, the alpha with all bits stays. Assumes nothing.
use Prim.Native.Nat.{ℕ, ◌+◌, ◌≤◌}
use native.Mathlib.Omega.{arith}
use mathlib.Core.Path.{◌≡◌, ap, ap₂, ◌∙◌}
use Rattle.arithmetic.specs.Matte.{scale_colour, matte_factor}
use Rattle.pixels_layout.specs.declared.PixelLayout.{PixelLayout}
use Rattle.pixels_layout.specs.declared.PixelLayout.TheVariants.{Rgba8, Argb8, Bgra8}
use Rattle.pixels_layout.specs.declared.Places.{Places}
use Rattle.pixels_layout.specs.Layout.{places_of}
use Rattle.rows.specs.declared.Own.{Own}
use Rattle.rows.specs.Tones.{own_at, own_of, toned}
use Rattle.rows.specs.Inner.Import.{Four}
use Rattle.rows.proofs.Tones.{toned_none, toned_all}

-- one lane read, a colour and the alpha
pub read_colour : {c c' a a' o r : ℕ} → r ≡ toned c a o → o ≡ 0 → c ≡ c' → a ≡ a' → r ≡ scale_colour c' (matte_factor a')
read_colour {c} {c'} {a} {a'} e h p q = e ∙ ap (toned c a) h ∙ toned_none c a ∙ ap₂ (λ (u t : ℕ). scale_colour u (matte_factor t)) p q

pub read_alpha : {c a' o r : ℕ} → r ≡ toned c c o → o ≡ 255 → c ≤ 255 → c ≡ a' → r ≡ a'
read_alpha {c} e h small p = e ∙ ap (toned c c) h ∙ toned_all c c small small ∙ p

-- ---- what is or-ed, for an alpha that stands first or last, as it does in a layout
pub colour_none : (layout : PixelLayout) {place : ℕ} {o : Own} → place ≡ (places_of layout).a → Four (λ k. own_of o k ≡ own_at place k) → o.b ≡ 0
unfolding own_at
colour_none layout {place} {o} e f = by layout (rw e at f.l1)
  where
    by : (layout : PixelLayout) → o.b ≡ own_at (places_of layout).a 1 → o.b ≡ 0
    by Rgba8 b = b
    by Argb8 b = b
    by Bgra8 b = b

pub alpha_all : (layout : PixelLayout) {place : ℕ} {o : Own} → place ≡ (places_of layout).a → Four (λ k. own_of o k ≡ own_at place k) → o.a + o.d ≡ 255
unfolding own_at
alpha_all layout {place} {o} e f = by layout (rw e at f.l0) (rw e at f.l3)
  where
    by : (layout : PixelLayout) → o.a ≡ own_at (places_of layout).a 0 → o.d ≡ own_at (places_of layout).a 3 → o.a + o.d ≡ 255
    by Rgba8 a d = omega (arith, a, d)
    by Argb8 a d = omega (arith, a, d)
    by Bgra8 a d = omega (arith, a, d)

-- nothing for a colour, all bits for the alpha itself
pub record Owns (none all : ℕ) : Type 0 where
  pub none_is : none ≡ 0
  pub all_is : all ≡ 255

-- at the places of a layout
pub owns_of : (layout : PixelLayout) {p : Places} {o : Own} → p ≡ places_of layout → Four (λ k. own_of o k ≡ own_at p.a k) → Owns o.b (o.a + o.d)
owns_of layout {p} {o} e f =
    let place : p.a ≡ (places_of layout).a = ap (λ (q : Places). q.a) e in
    record { none_is = colour_none layout place f; all_is = alpha_all layout place f }
