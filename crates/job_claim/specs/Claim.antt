-- DEMAND 3: one claim about every list of calls, to be read beside SCOPE, "The list of demand 3". proofs/Theorem.antt proves it. Assumes nothing.
use Rattle.std.specs.Prelude.{ℕ, zero, suc, ◌+◌, ◌*◌, ◌-◌, ◌/◌, ◌%◌, ◌≤◌, ◌<◌, min, ◌≡◌, ◌⊎◌, List, [], ◌++◌, length, get_or, take, drop}
use Rattle.arithmetic.specs.Weight.{span}
use Rattle.pixels.specs.Sizes.{row_bytes, picture_bytes, work_values, size_of}
use Rattle.pixels_layout.specs.Layout.{alpha_lane}
use Rattle.rows_form.specs.Form.{place_in, flag_in}
use Rattle.pixels_crop.specs.Crop.{cropped}
use Rattle.rows_laws.specs.Mean.{exact_sum, total, Near, Premise}
use Rattle.job_rules.specs.declared.Kind.TheVariants.{Picture, Plane}
use Rattle.job_rules.specs.declared.Plan.{Plan}
use Rattle.job_rules.specs.Rules.{lanes_of, form_of, Formed, R, start_number}
use Rattle.job.specs.Record.{ready_of}
use Rattle.job_claim.specs.Rows.{read_byte, row_of, joined, resized, resized_flag}
use Rattle.job_claim.specs.Calls.{Call, Offer, Take, Run, step, run, begun, offer_number, offer_rows, take_number, take_out, NoneRefused}

-- ---- "Buffers have the right length when 3, 4 and 5 don't apply"

pub record RightTake (p : Plan) (r : Run) (out : List ℕ) (lent : ℕ) : Type 0 where
  pub exact : length out ≡ row_bytes (lanes_of p) p.target.width
  pub room : work_values (lanes_of p) p.target.width ≤ length (take lent r.work)

pub record RightOffer (p : Plan) (r : Run) (rows : List ℕ) (lent : ℕ) : Type 0 where
  pub some : 0 < length rows
  pub whole : length rows % row_bytes (lanes_of p) p.source.width ≡ 0
  pub room : work_values (lanes_of p) p.target.width ≤ length (take lent r.work)

-- ---- and lengths that are not

-- "offered bytes empty or no whole number of source rows"
abbrev pub WrongRows : Plan → List ℕ → Type 0
WrongRows p rows = (length rows ≡ 0) ⊎ (length rows % row_bytes (lanes_of p) p.source.width ≡ 0 → ⊥)

-- "too short a beginning of the work rows"
abbrev pub ShortWork : Plan → Run → ℕ → Type 0
ShortWork p r lent = length (take lent r.work) < work_values (lanes_of p) p.target.width

-- ---- "Ready is how many takes with buffers of the right length would succeed straight after the list, one after another, before one is turned away"
abbrev pub Ready : Plan → Run → ℕ → Type 0
Ready p r zero = (out : List ℕ) (lent : ℕ) → RightTake p r out lent → take_number r out lent ≡ 9
Ready p r (suc n) = (out : List ℕ) (lent : ℕ) → RightTake p r out lent → (take_number r out lent ≡ 0) × Ready p (step p r (Take out lent)) n

-- ---- "the smallest of the rows lent, the source rows remaining and, if there is one, the least c from 1 up for which R(accepted before it + c) is above taken"
pub record Smallest (p : Plan) (accepted taken lent remaining count : ℕ) : Type 0 where
  pub with_least : (c : ℕ) → 0 < c → taken < R p (accepted + c) → ((i : ℕ) → 0 < i → i < c → R p (accepted + i) ≤ taken)
      → count ≡ min (min lent remaining) c
  pub with_none : ((i : ℕ) → 0 < i → R p (accepted + i) ≤ taken) → count ≡ min lent remaining

-- ---- the bytes that the distance is about

-- lane k of column j of taken row y
abbrev pub taken_byte : Plan → Run → ℕ → ℕ → ℕ → ℕ
taken_byte p r k j y = get_or (get_or r.seen.rows y []) (lanes_of p * j + place_in (form_of p) k) 0

-- "sum of wx×wy×matted byte" of that lane, over the accepted rows inside the crop; a plane's bytes are not matted
abbrev pub exact_of : Plan → Run → ℕ → ℕ → ℕ → ℕ
exact_of p r k j y =
    exact_sum p.crop.width p.target.width p.crop.height p.target.height (read_byte p (λ i. get_or r.seen.source i 0) k) j y

-- Wx × Wy
abbrev pub total_of : Plan → ℕ
total_of p = total p.crop.width p.target.width p.crop.height p.target.height

-- SCOPE's bound on span and heights, where the height does not grow
abbrev pub Bounded : Plan → Type 0
Bounded p = Premise (span p.crop.width p.target.width) p.crop.height p.target.height

-- ---- "the rest is untouched", by start and by every call: given is the slice as it was lent to start
pub record RestStays (p : Plan) (given work : List ℕ) : Type 0 where
  pub as_many : length work ≡ length given
  pub as_given : drop (work_values (lanes_of p) p.target.width) work ≡ drop (work_values (lanes_of p) p.target.width) given

-- ---- the claim about where a list of calls has led, given being the work values as they were lent to start
pub record Claim (p : Plan) (given : List ℕ) (r : Run) : Type 0 where
  -- 1. ready plus taken is R(accepted), there is one such number, and it is the one that the call `ready` returns
  pub ready : (n : ℕ) × Ready p r n × (n + r.seen.taken ≡ R p r.seen.accepted)
  pub ready_only : (n : ℕ) → Ready p r n → n + r.seen.taken ≡ R p r.seen.accepted
  pub ready_told : Ready p r (ready_of r.job)
  -- 2. with buffers of the right length the next take succeeds exactly when taken < R(accepted), and is otherwise 9
  pub take_goes : (out : List ℕ) (lent : ℕ) → RightTake p r out lent → r.seen.taken < R p r.seen.accepted → take_number r out lent ≡ 0
  pub take_none : (out : List ℕ) (lent : ℕ) → RightTake p r out lent → R p r.seen.accepted ≤ r.seen.taken → take_number r out lent ≡ 9
  -- 3. with buffers of the right length the next offer accepts rows exactly when taken = R(accepted) and source rows remain, and how many;
  -- it is otherwise 7 while taken < R(accepted), else 8
  pub offer_goes : (rows : List ℕ) (lent : ℕ) → RightOffer p r rows lent → r.seen.taken ≡ R p r.seen.accepted → r.seen.accepted < p.source.height
      → (offer_number r rows lent ≡ 0) × (0 < offer_rows r rows lent)
  pub offer_count : (rows : List ℕ) (lent : ℕ) → RightOffer p r rows lent → r.seen.taken ≡ R p r.seen.accepted → r.seen.accepted < p.source.height
      → Smallest p r.seen.accepted r.seen.taken (length rows / row_bytes (lanes_of p) p.source.width) (p.source.height - r.seen.accepted) (offer_rows r rows lent)
  pub offer_ready : (rows : List ℕ) (lent : ℕ) → RightOffer p r rows lent → r.seen.taken < R p r.seen.accepted → offer_number r rows lent ≡ 7
  pub offer_all : (rows : List ℕ) (lent : ℕ) → RightOffer p r rows lent → r.seen.taken ≡ R p r.seen.accepted → p.source.height ≤ r.seen.accepted
      → offer_number r rows lent ≡ 8
  -- with a buffer of another length a call gets 3, 4 or 5: an offer 3 ahead of 5, a take 4 ahead of 5
  pub wrong_rows : (rows : List ℕ) (lent : ℕ) → WrongRows p rows → offer_number r rows lent ≡ 3
  pub offer_short : (rows : List ℕ) (lent : ℕ) → 0 < length rows → length rows % row_bytes (lanes_of p) p.source.width ≡ 0 → ShortWork p r lent → offer_number r rows lent ≡ 5
  pub wrong_out : (out : List ℕ) (lent : ℕ) → (length out ≡ row_bytes (lanes_of p) p.target.width → ⊥) → take_number r out lent ≡ 4
  pub take_short : (out : List ℕ) (lent : ℕ) → length out ≡ row_bytes (lanes_of p) p.target.width → ShortWork p r lent → take_number r out lent ≡ 5
  -- a call that is turned away, with whatever number, leaves the record, the work values and what was counted, and a take its output buffer
  pub offer_turned : (rows : List ℕ) (lent : ℕ) → (offer_number r rows lent ≡ 0 → ⊥) → step p r (Offer rows lent) ≡ r
  pub take_turned : (out : List ℕ) (lent : ℕ) → (take_number r out lent ≡ 0 → ⊥) → (step p r (Take out lent) ≡ r) × (take_out r out lent ≡ out)
  -- the counts stay in bounds, and the work values beyond the halves as they were
  pub bytes : length r.seen.source ≡ row_bytes (lanes_of p) p.source.width * r.seen.accepted
  pub in_source : r.seen.accepted ≤ p.source.height
  pub in_schedule : r.seen.taken ≤ R p r.seen.accepted
  pub rest_stays : RestStays p given r.work
  -- 4. as many rows were handed out as were taken, row y being the closed form of the accepted bytes, and the flag says whether a taken alpha byte isn't 255;
  -- a plane's is false
  pub handed : length r.seen.rows ≡ r.seen.taken
  pub contents : (y : ℕ) → y < r.seen.taken → get_or r.seen.rows y [] ≡ row_of p (λ i. get_or r.seen.source i 0) y
  pub flag : r.seen.flag ≡ flag_in (form_of p) (joined r.seen.rows) (p.target.width * r.seen.taken)
  -- 5. of a picture no taken alpha byte, nor colour byte beside a taken alpha 255, is two or more levels from the exact mean of the matted bytes; of a plane no
  -- taken byte is
  pub near_alpha : p.kind ≡ Picture → Bounded p → (y : ℕ) → y < r.seen.taken → (j : ℕ) → j < p.target.width
      → Near (taken_byte p r alpha_lane j y) (exact_of p r alpha_lane j y) (total_of p)
  pub near_colour : p.kind ≡ Picture → Bounded p → (y : ℕ) → y < r.seen.taken → (j : ℕ) → j < p.target.width
      → taken_byte p r alpha_lane j y ≡ 255
      → (k : ℕ) → k < alpha_lane → Near (taken_byte p r k j y) (exact_of p r k j y) (total_of p)
  pub near_plane : p.kind ≡ Plane → Bounded p → (y : ℕ) → y < r.seen.taken → (j : ℕ) → j < p.target.width → (k : ℕ) → k < lanes_of p
      → Near (taken_byte p r k j y) (exact_of p r k j y) (total_of p)
  -- 6. once all rows of a picture are taken they are the pixels, and the flag the flag, of crop then resize, of every picture that begins with the accepted
  -- bytes: rows below the crop may not have been accepted yet
  pub whole : p.kind ≡ Picture → r.seen.taken ≡ p.target.height → (more : List ℕ)
      → joined r.seen.rows ≡ resized (size_of p.crop.width p.crop.height) p.layout p.target (cropped p.source p.crop (r.seen.source ++ more))
  pub whole_flag : p.kind ≡ Picture → r.seen.taken ≡ p.target.height → (more : List ℕ)
      → r.seen.flag ≡ resized_flag (size_of p.crop.width p.crop.height) p.layout p.target (cropped p.source p.crop (r.seen.source ++ more))

-- ---- a list that brings the whole picture and takes the whole preview, no call being turned away
pub record Reached (p : Plan) (work pixels : List ℕ) (calls : List Call) : Type 0 where
  pub none_refused : NoneRefused p (begun p work) calls
  pub source : (run p (begun p work) calls).seen.source ≡ pixels
  pub accepted : (run p (begun p work) calls).seen.accepted ≡ p.source.height
  pub taken : (run p (begun p work) calls).seen.taken ≡ p.target.height

-- ---- DEMAND 3
pub record Demand3 : Type 0 where
  -- for every accepting start, of a picture or of a plane, and every list of calls
  pub every_list : (p : Plan) (work : List ℕ) → Formed p → start_number p (length work) ≡ 0 → (calls : List Call) → Claim p work (run p (begun p work) calls)
  -- and for every source of the right length there is a list that gets to the end
  pub some_list : (p : Plan) (work : List ℕ) → Formed p → start_number p (length work) ≡ 0
      → (pixels : List ℕ) → length pixels ≡ picture_bytes (lanes_of p) p.source.width p.source.height
      → (calls : List Call) × Reached p work pixels calls
