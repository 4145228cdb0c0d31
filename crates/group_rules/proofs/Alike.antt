-- Jobs over one source: the test as the code makes it, and what it says. Assumes nothing.
use Prim.Native.Nat.{ℕ, ◌<◌}
use mathlib.Core.Path.{◌≡◌, refl, sym, ◌∙◌}
use mathlib.Core.Bool.{Bool, true, false, not, ◌&&◌, true≢false}
use mathlib.Core.List.{List}
use lib.Dec.{eqb}
use borrow.Author.Tests.{eq-eqb, ne_eqb, eqb-true}
use Rattle.pixels.proofs.Truths.{both_true, neither_true, not_false}
use denote.Enum.Bare.{sameb}
use Rattle.pixels_layout.specs.contracts.PixelLayout.{the_type as layout_type}
use Rattle.job_rules.specs.contracts.Kind.{the_type as kind_type}
use Rattle.pixels_layout.specs.declared.PixelLayout.{PixelLayout}
use Rattle.pixels_layout.specs.declared.PixelLayout.TheVariants.{Rgba8, Argb8, Bgra8}
use Rattle.job_rules.specs.declared.Kind.{Kind}
use Rattle.job_rules.specs.declared.Kind.TheVariants.{Picture, Plane}
use Rattle.job_rules.specs.declared.Plan.{Plan}
use Rattle.job_rules.specs.Rules.{lanes_of}
use Rattle.job.specs.declared.Job.{Job}
use Rattle.group_rules.specs.Group.{plan_at, some, same_layout, same_kind, alike, differing}
use Rattle.group_rules.proofs.Jobs.{some_none}

-- ---- two enums compared
pub layout_of : (a b : PixelLayout) → same_layout a b ≡ true → a ≡ b
layout_of Rgba8 Rgba8 e = refl
layout_of Rgba8 Argb8 e = absurd (true≢false (sym e))
layout_of Rgba8 Bgra8 e = absurd (true≢false (sym e))
layout_of Argb8 Rgba8 e = absurd (true≢false (sym e))
layout_of Argb8 Argb8 e = refl
layout_of Argb8 Bgra8 e = absurd (true≢false (sym e))
layout_of Bgra8 Rgba8 e = absurd (true≢false (sym e))
layout_of Bgra8 Argb8 e = absurd (true≢false (sym e))
layout_of Bgra8 Bgra8 e = refl

pub kind_of : (a b : Kind) → same_kind a b ≡ true → a ≡ b
kind_of Picture Picture e = refl
kind_of Picture Plane e = absurd (true≢false (sym e))
kind_of Plane Picture e = absurd (true≢false (sym e))
kind_of Plane Plane e = refl

-- ---- two plans, as facts
pub record Alike (p q : Plan) : Type 0 where
  pub width : q.source.width ≡ p.source.width
  pub height : q.source.height ≡ p.source.height
  pub layout : q.layout ≡ p.layout
  pub kind : q.kind ≡ p.kind
  pub lanes : lanes_of q ≡ lanes_of p

pub alike_of : (p q : Plan) → alike p q ≡ true → Alike p q
unfolding alike
alike_of p q e =
    let lanes = both_true _ (eqb (lanes_of q) (lanes_of p)) e in
    let kind = both_true _ (same_kind q.kind p.kind) lanes.0 in
    let layout = both_true _ (same_layout q.layout p.layout) kind.0 in
    let sides = both_true (eqb q.source.width p.source.width) (eqb q.source.height p.source.height) layout.0 in
    record {
      width = eqb-true _ _ sides.0;
      height = eqb-true _ _ sides.1;
      layout = layout_of _ _ layout.1;
      kind = kind_of _ _ kind.1;
      lanes = eqb-true _ _ lanes.1;
    }

-- ---- the test as the code makes it: what the derived comparisons answered, each asked where the ones before it passed
layout_same : (a b : PixelLayout) → sameb layout_type a b ≡ same_layout a b
layout_same Rgba8 Rgba8 = refl
layout_same Rgba8 Argb8 = refl
layout_same Rgba8 Bgra8 = refl
layout_same Argb8 Rgba8 = refl
layout_same Argb8 Argb8 = refl
layout_same Argb8 Bgra8 = refl
layout_same Bgra8 Rgba8 = refl
layout_same Bgra8 Argb8 = refl
layout_same Bgra8 Bgra8 = refl

kind_same : (a b : Kind) → sameb kind_type a b ≡ same_kind a b
kind_same Picture Picture = refl
kind_same Picture Plane = refl
kind_same Plane Picture = refl
kind_same Plane Plane = refl

pub not_asked : (a b : Bool) {v : Bool} → a ≡ false → v ≡ a → v ≡ (a && b)
not_asked a b e q = q ∙ rw e refl

module _ (a : Bool) {r v : Bool} where
  pub layout_asked : (x y : PixelLayout) → a ≡ true → r ≡ sameb layout_type x y → v ≡ r → v ≡ (a && same_layout x y)
  layout_asked x y e h q = q ∙ h ∙ rw e (layout_same x y)

  pub kind_asked : (x y : Kind) → a ≡ true → r ≡ sameb kind_type x y → v ≡ r → v ≡ (a && same_kind x y)
  kind_asked x y e h q = q ∙ h ∙ rw e (kind_same x y)

module _ (p q : Plan) (s l k : Bool) (source : s ≡ (eqb q.source.width p.source.width && eqb q.source.height p.source.height))
    (layout : l ≡ (s && same_layout q.layout p.layout)) (kind : k ≡ (l && same_kind q.kind p.kind)) where
  pub lanes_decide : k ≡ true → eqb (lanes_of q) (lanes_of p) ≡ alike p q
  unfolding alike
  lanes_decide e = rw (sym source, sym layout, sym kind, e) refl

  pub others_decide : k ≡ false → k ≡ alike p q
  unfolding alike
  others_decide e = rw (sym source, sym layout, sym kind, e) refl

-- ---- the jobs of a group
abbrev pub unlike : List Job → ℕ → Bool
unlike js i = not (alike (plan_at js 0) (plan_at js i))

module _ (js : List Job) (n : ℕ) where
  pub no_jobs : n ≡ 0 → true ≡ differing js n
  unfolding differing
  no_jobs e = simp (eq-eqb n 0 e)

  pub jobs_decide : (n ≡ 0 → ⊥) → (b : Bool) → b ≡ some (unlike js) n → b ≡ differing js n
  unfolding differing
  jobs_decide h b e = e ∙ simp (ne_eqb n 0 h)

  pub jobs_there : differing js n ≡ false → n ≡ 0 → ⊥
  jobs_there e z = true≢false (no_jobs z ∙ e)

  pub alike_all : differing js n ≡ false → (i : ℕ) → i < n → Alike (plan_at js 0) (plan_at js i)
  unfolding differing
  alike_all e i l =
      let p = neither_true (eqb n 0) (some (unlike js) n) e in
      alike_of (plan_at js 0) (plan_at js i) (not_false _ (some_none (unlike js) n i p.1 l))
