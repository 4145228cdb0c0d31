-- What the claim says of pictures alone and of planes alone: a plan that a start formed is the one or the other, and its kind says which. Assumes nothing.
use Prim.Native.Nat.{ℕ, ◌+◌, ◌*◌, ◌≤◌, ◌<◌}
use mathlib.Core.Path.{◌≡◌, sym, ap, ◌∙◌, subst}
use mathlib.Core.Bool.{Bool, true, false, true≢false}
use mathlib.Core.Logic.{◌⊎◌, inl, inr}
use mathlib.Core.List.{List, ◌++◌}
use lib.ListN.{get_or}
use Rattle.arithmetic.specs.Weight.{span}
use Rattle.pixels.specs.Sizes.{size_of, Fits}
use Rattle.pixels_layout.specs.Layout.{alpha_lane}
use Rattle.pixels_crop.specs.Crop.{cropped}
use Rattle.rows_form.specs.Form.{place_in}
use Rattle.rows_laws.specs.Mean.{exact_sum, total, Near, Premise}
use Rattle.job_rules.specs.declared.Kind.{Kind}
use Rattle.job_rules.specs.declared.Kind.TheVariants.{Picture, Plane}
use Rattle.job_rules.specs.declared.Plan.{Plan}
use Rattle.job_rules.specs.Rules.{lanes_of, form_of, plan_of, plane_of, Formed}
use Rattle.job_claim.specs.Rows.{read_byte, row_of, joined, resized, resized_flag}
use Rattle.job_claim.specs.Calls.{Seen}
use Rattle.job_claim.proofs.Taking.{plane_near, alpha_near, colour_near}
use Rattle.job_claim.proofs.Invariant.{Inv}
use Rattle.job_claim.proofs.Whole.{seen_whole, seen_whole_flag}

-- ---- no kind is both
is_plane : Kind → Bool
is_plane Picture = false
is_plane Plane = true

not_both : Picture ≡ Plane → ⊥
unfolding is_plane
not_both e = true≢false (sym (ap is_plane e))

picture_is : (p : Plan) → Formed p → p.kind ≡ Picture → p ≡ plan_of p.source p.layout p.crop p.target
picture_is p (inl e) kind = e
picture_is p (inr e) kind = absurd (not_both (sym kind ∙ ap (λ (q : Plan). q.kind) e))

plane_is : (p : Plan) → Formed p → p.kind ≡ Plane → p ≡ plane_of p.source p.lanes p.crop p.target
plane_is p (inl e) kind = absurd (not_both (sym (ap (λ (q : Plan). q.kind) e) ∙ kind))
plane_is p (inr e) kind = e

-- ---- near the exact mean: lane k of column i of row y, of the bytes b
abbrev NearFor : Plan → (ℕ → ℕ) → ℕ → ℕ → ℕ → Type 0
NearFor p b y i k =
    Near (get_or (row_of p b y) (lanes_of p * i + place_in (form_of p) k) 0)
    (exact_sum p.crop.width p.target.width p.crop.height p.target.height (read_byte p b k) i y)
    (total p.crop.width p.target.width p.crop.height p.target.height)

module _ (p : Plan) (formed : Formed p) (b : ℕ → ℕ) (y i : ℕ) (inside : i < p.target.width) (fits : Fits p.source p.crop p.target) (row : y < p.target.height)
    (premise : Premise (span p.crop.width p.target.width) p.crop.height p.target.height) where
  pub picture_alpha : p.kind ≡ Picture → NearFor p b y i alpha_lane
  picture_alpha kind =
      subst (λ (q : Plan). NearFor q b y i alpha_lane) (sym (picture_is p formed kind)) (alpha_near p.source p.layout p.crop p.target b y i inside fits row premise)

  pub picture_colour : p.kind ≡ Picture → get_or (row_of p b y) (lanes_of p * i + place_in (form_of p) alpha_lane) 0 ≡ 255 → (k : ℕ) → k < alpha_lane → NearFor p b y i k
  picture_colour kind =
      subst (λ (q : Plan). get_or (row_of q b y) (lanes_of q * i + place_in (form_of q) alpha_lane) 0 ≡ 255 → (k : ℕ) → k < alpha_lane → NearFor q b y i k) (sym (picture_is p formed kind))
      (colour_near p.source p.layout p.crop p.target b y i inside fits row premise)

  pub plane_byte : p.kind ≡ Plane → (k : ℕ) → k < lanes_of p → NearFor p b y i k
  plane_byte kind =
      subst (λ (q : Plan). (k : ℕ) → k < lanes_of q → NearFor q b y i k) (sym (plane_is p formed kind)) (plane_near p.source p.lanes p.crop p.target b y i inside fits row premise)

-- ---- all rows of a picture
module _ (p : Plan) (formed : Formed p) (s : Seen) (work : List ℕ) (v : Inv p s work) (kind : p.kind ≡ Picture) (all-taken : s.taken ≡ p.target.height) (more : List ℕ) where
  picture_inv : Inv (plan_of p.source p.layout p.crop p.target) s work
  picture_inv = subst (λ (q : Plan). Inv q s work) (picture_is p formed kind) v

  pub picture_whole : joined s.rows ≡ resized (size_of p.crop.width p.crop.height) p.layout p.target (cropped p.source p.crop (s.source ++ more))
  picture_whole = seen_whole p.source p.layout p.crop p.target s work picture_inv all-taken more

  pub picture_flag_lem : s.flag ≡ resized_flag (size_of p.crop.width p.crop.height) p.layout p.target (cropped p.source p.crop (s.source ++ more))
  picture_flag_lem = seen_whole_flag p.source p.layout p.crop p.target s work picture_inv all-taken more
