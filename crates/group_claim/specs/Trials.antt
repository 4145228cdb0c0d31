-- Trials of groups: what the definitions give beside what SCOPE, "Groups", says. proofs/Trials.antt computes them. Assumes nothing.
use Rattle.std.specs.Prelude.{ℕ, List, [], ◌∷◌, ◌++◌, ◌≡◌, replicate}
use Rattle.pixels.specs.Sizes.{size_of, rect_of}
use Rattle.pixels_layout.specs.declared.PixelLayout.{PixelLayout}
use Rattle.pixels_layout.specs.declared.PixelLayout.TheVariants.{Rgba8, Bgra8}
use Rattle.job_rules.specs.declared.Kind.TheVariants.{Picture}
use Rattle.job_rules.specs.declared.Plan.{Plan}
use Rattle.job_rules.specs.Rules.{plan_of, plane_of}
use Rattle.job_claim.specs.Trials.{opaque}
use Rattle.group_rules.specs.Tests.{group_start_number}
use Rattle.group_claim.specs.Calls.{GroupCall, OfferAll, TakeOf, GroupRun, group_step, group_begun, offer_number, offer_rows, take_number, take_out}

-- a picture of one column, h pixels high, to m by g; a plane of one byte for each lane
abbrev column : PixelLayout → ℕ → ℕ → ℕ → Plan
column l h m g = plan_of (size_of 1 h) l (rect_of 0 0 1 h) (size_of m g)

abbrev plane : ℕ → Plan
plane lanes = plane_of (size_of 1 1) lanes (rect_of 0 0 1 1) (size_of 1 1)

abbrev one : Plan
one = column Rgba8 1 1 1

abbrev nothing_high : Plan
nothing_high = column Rgba8 0 1 1

-- ---- start: a list of plans, how many there are said to be, and the work values lent

unfoldable pub starts_given : List ℕ
starts_given =
    -- an empty group
    group_start_number [] 0 0
    -- two jobs need 8 and 16 work values
    ∷ group_start_number (one ∷ column Rgba8 1 2 1 ∷ []) 2 24
    ∷ group_start_number (one ∷ column Rgba8 1 2 1 ∷ []) 2 23
    -- sources, layouts, kinds and lane counts that differ, ahead of 5
    ∷ group_start_number (one ∷ column Rgba8 2 1 1 ∷ []) 2 0
    ∷ group_start_number (one ∷ column Bgra8 1 1 1 ∷ []) 2 0
    ∷ group_start_number (one ∷ plane 4 ∷ []) 2 0
    ∷ group_start_number (plane 1 ∷ plane 2 ∷ []) 2 0
    -- a plane of no lanes; a picture has four, whatever its plan says
    ∷ group_start_number (plane 1 ∷ plane 0 ∷ []) 2 0
    ∷ group_start_number (record { source = size_of 1 1; layout = Rgba8; crop = rect_of 0 0 1 1; target = size_of 1 1; kind = Picture; lanes = 0 } ∷ one ∷ []) 2 16
    -- six jobs, and a seventh; the numbers ahead of 14 do not look at that one
    ∷ group_start_number (replicate 7 one) 6 48
    ∷ group_start_number (replicate 7 one) 7 56
    ∷ group_start_number (replicate 6 one ++ (nothing_high ∷ [])) 7 56
    ∷ group_start_number (replicate 5 one ++ (nothing_high ∷ one ∷ [])) 7 56
    ∷ []

abbrev pub starts_said : List ℕ
starts_said = 13 ∷ 0 ∷ 5 ∷ 13 ∷ 13 ∷ 13 ∷ 13 ∷ 10 ∷ 0 ∷ 0 ∷ 14 ∷ 14 ∷ 1 ∷ []

-- ---- calls: the number and the rows accepted of each offer, the number and the output buffer of each take

unfoldable pub told : GroupRun → List GroupCall → List (List ℕ)
told r [] = []
told r (OfferAll rows lent ∷ calls) = (offer_number r rows lent ∷ offer_rows r rows lent ∷ []) ∷ told (group_step r (OfferAll rows lent)) calls
told r (TakeOf k out lent ∷ calls) = (take_number r k out lent ∷ take_out r k out lent) ∷ told (group_step r (TakeOf k out lent)) calls

abbrev untouched : List ℕ
untouched = 1 ∷ 2 ∷ 3 ∷ 4 ∷ []

-- a column of four opaque pixels, lanes 10, 20, 30, 40, to one pixel and to two
unfoldable pub calls_given : List (List ℕ)
calls_given =
    told (group_begun (column Rgba8 4 1 1 ∷ column Rgba8 4 1 2 ∷ []) 2 (replicate 16 7))
    (OfferAll (opaque Rgba8 (10 ∷ 20 ∷ 30 ∷ 40 ∷ [])) 16
    ∷ OfferAll (opaque Rgba8 (30 ∷ 40 ∷ [])) 16
    ∷ TakeOf 0 untouched 16
    ∷ TakeOf 2 [] 0
    ∷ TakeOf 1 untouched 8
    ∷ TakeOf 1 untouched 16
    ∷ OfferAll (opaque Rgba8 (30 ∷ 40 ∷ [])) 16
    ∷ TakeOf 0 untouched 16
    ∷ TakeOf 1 untouched 16
    ∷ OfferAll (opaque Rgba8 (50 ∷ [])) 16
    ∷ [])

-- the second job has a row ready after two rows, so that two are accepted; then the group waits for that row alone; its take needs the work values of both
abbrev pub calls_said : List (List ℕ)
calls_said =
    (0 ∷ 2 ∷ [])
    ∷ (7 ∷ 0 ∷ [])
    ∷ (9 ∷ 1 ∷ 2 ∷ 3 ∷ 4 ∷ [])
    ∷ (13 ∷ [])
    ∷ (5 ∷ 1 ∷ 2 ∷ 3 ∷ 4 ∷ [])
    ∷ (0 ∷ 15 ∷ 15 ∷ 15 ∷ 255 ∷ [])
    ∷ (0 ∷ 2 ∷ [])
    ∷ (0 ∷ 25 ∷ 25 ∷ 25 ∷ 255 ∷ [])
    ∷ (0 ∷ 35 ∷ 35 ∷ 35 ∷ 255 ∷ [])
    ∷ (8 ∷ 0 ∷ [])
    ∷ []

pub record TrialsHold : Type 0 where
  pub starts : starts_given ≡ starts_said
  pub calls : calls_given ≡ calls_said
