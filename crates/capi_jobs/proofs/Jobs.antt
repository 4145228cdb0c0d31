-- What each way out of start, offer and take gives, as the contracts state it. Where the call went through, the record that the library hands back is the one
-- that is stored. Assumes nothing.
use Rattle.std.specs.Prelude.{Option, Some, None, Result, Ok, Err, ⊤}
use Prim.Native.Nat.{ℕ, ◌≤◌}
use mathlib.Core.Path.{◌≡◌, sym, ◌∙◌}
use mathlib.Core.Bool.{Bool, false}
use mathlib.Core.List.{List}
use lib.ListN.{length}
use Rattle.pixels.specs.declared.Refusal.{Refusal}
use Rattle.pixels.specs.declared.Refusal.TheVariants.{InvalidRecord}
use Rattle.pixels.specs.Refusals.{number, buffer_if, answer_number, value_or}
use Rattle.job_rules.specs.declared.Plan.{Plan}
use Rattle.job_rules.specs.Rules.{start_number}
use Rattle.job.specs.declared.Job.{Job}
use Rattle.job.specs.Record.{fresh}
use Rattle.job.specs.Calls.{offer_number, offer_rows, offer_job, offer_work, take_number, take_job, take_out, take_work}
use Rattle.job_start.specs.Start.{start_work}
use Rattle.capi_record.specs.Record.{words_job, told_by, stored_job, record_first}
use Rattle.capi_words.specs.Boundary.{boundary_first, stored_word}
use Rattle.capi_record.proofs.Records.{job_legal}
use Rattle.capi_record.proofs.Offers as offers
use Rattle.capi_record.proofs.Offers.{no_record}
use Rattle.capi_words.proofs.Boundary.{kept_by, written_by, written_once, passed, buffer_told}
use Rattle.capi_jobs.specs.Jobs.{number_of_offer, record_after_offer, work_after_offer, count_after_offer, number_of_take, record_after_take, out_after_take, work_after_take}

-- ---- start: b is the boundary's test, and n the number told
module _ (p : Plan) (work words next : List ℕ) (answer : Result Job Refusal) {t b : Bool} (e : t ≡ b) (f : t ≡ false)
    (m : answer_number answer ≡ start_number p (length work)) (w : next ≡ start_work p work) where
  abbrev n : ℕ
  n = boundary_first b (start_number p (length work))

  start_work_lem : next ≡ buffer_if n (start_work p work) work
  unfolding start_work
  start_work_lem =
      let x = start_number p (length work) in
      buffer_told n x next _ work (passed x e f) (w ∙ written_once x _ work)

  pub start_refused : (why : Refusal) (r : ℕ) → answer ≡ Err why → r ≡ number why
      → (r ≡ boundary_first b (start_number p (length work)))
      × ((next ≡ buffer_if (boundary_first b (start_number p (length work))) (start_work p work) work)
      × (words ≡ buffer_if (boundary_first b (start_number p (length work))) (stored_job (fresh p) words) words))
  start_refused why r a h =
      let z : number why ≡ n = (rw a at m) ∙ passed (start_number p (length work)) e f in
      (h ∙ z, (start_work_lem, kept_by why n _ words (sym z)))

  pub start_fresh : (job : Job) (words' : List ℕ) → answer ≡ Ok job → value_or (fresh p) answer ≡ fresh p → words' ≡ stored_job job words
      → (0 ≡ boundary_first b (start_number p (length work)))
      × ((next ≡ buffer_if (boundary_first b (start_number p (length work))) (start_work p work) work)
      × (words' ≡ buffer_if (boundary_first b (start_number p (length work))) (stored_job (fresh p) words) words))
  start_fresh job words' a j s =
      let z : 0 ≡ n = (rw a at m) ∙ passed (start_number p (length work)) e f in
      let q : job ≡ fresh p = rw a at j in
      (z, (start_work_lem, written_by n words' _ words z (rw q at s)))

-- ---- offer
module _ (words rows work count : List ℕ) (lent : 1 ≤ length count) where
  abbrev number_of : Job → ℕ
  number_of j = offer_number j (length rows) (length work)

  abbrev rows_of : Job → ℕ
  rows_of j = offer_rows j (length rows) (length work)

  abbrev next_of : Job → Job
  next_of j = offer_job j (length rows) (length work)

  abbrev work_of : Job → List ℕ
  work_of j = offer_work j rows work

  pub offer_no_record : (r : ℕ) {t : Option Job} → t ≡ told_by words → t ≡ None → r ≡ number InvalidRecord
      → (r ≡ number_of_offer words (length rows) (length work) (length count))
      × ((words ≡ record_after_offer words (length rows) (length work) (length count))
      × ((work ≡ work_after_offer words rows work (length count)) × (count ≡ count_after_offer words (length rows) (length work) count)))
  unfolding number_of_offer record_after_offer work_after_offer count_after_offer
  offer_no_record r e f h = offers.none_told words work count lent number_of rows_of next_of work_of r e f h

  -- to the job j that the words tell
  module _ (j : Job) {t : Option Job} (e : t ≡ told_by words) (f : t ≡ Some j) (said : Result ℕ Refusal) (m : answer_number said ≡ number_of j)
      (next : List ℕ) (w : next ≡ offer_work j rows work) where
    once : next ≡ buffer_if (number_of j) (work_of j) work
    unfolding offer_work
    once = w ∙ written_once (number_of j) _ work

    pub offer_refused : (why : Refusal) (r : ℕ) → said ≡ Err why → r ≡ number why
        → (r ≡ number_of_offer words (length rows) (length work) (length count))
        × ((words ≡ record_after_offer words (length rows) (length work) (length count))
        × ((next ≡ work_after_offer words rows work (length count)) × (count ≡ count_after_offer words (length rows) (length work) count)))
    unfolding number_of_offer record_after_offer work_after_offer count_after_offer
    offer_refused why r a h = offers.offer_refused words work count lent number_of rows_of next_of work_of j e f said m next once why r a h

    pub offer_accepted : (n : ℕ) (job : Job) (words' count' : List ℕ) → said ≡ Ok n → value_or 0 said ≡ rows_of j
        → job ≡ next_of j → words' ≡ stored_job job words → count' ≡ stored_word n count
        → (0 ≡ number_of_offer words (length rows) (length work) (length count))
        × ((words' ≡ record_after_offer words (length rows) (length work) (length count))
        × ((next ≡ work_after_offer words rows work (length count)) × (count' ≡ count_after_offer words (length rows) (length work) count)))
    unfolding number_of_offer record_after_offer work_after_offer count_after_offer
    offer_accepted n job words' count' a c o s u =
        offers.offer_accepted words work count lent number_of rows_of next_of work_of j e f said m next once n job words' count' a c o s u

-- ---- take
pub take_no_record : (words out work : List ℕ) (r : ℕ) {t : Option Job} → t ≡ told_by words → t ≡ None → r ≡ number InvalidRecord
    → (r ≡ number_of_take words (length out) (length work))
    × ((words ≡ record_after_take words (length out) work) × ((out ≡ out_after_take words out work) × (work ≡ work_after_take words (length out) work)))
unfolding number_of_take record_after_take out_after_take work_after_take
take_no_record words out work r e f h =
    let z : r ≡ record_first words (take_number (words_job words) (length out) (length work)) = no_record words _ r e f h in
    let k = sym z ∙ h in
    (z, (kept_by InvalidRecord _ _ words k, (kept_by InvalidRecord _ _ out k, kept_by InvalidRecord _ _ work k)))

-- ---- take from the job j that the words tell
module _ (words out work out' work' : List ℕ) (j : Job) {t : Option Job} (e : t ≡ told_by words) (f : t ≡ Some j) (said : Result ⊤ Refusal)
    (m : answer_number said ≡ take_number j (length out) (length work)) (o : out' ≡ take_out j out work) (w : work' ≡ take_work j (length out) work) where
  told_by_lem : j ≡ words_job words
  told_by_lem = sym (job_legal words j (sym e ∙ f)).1

  take_number_lem : take_number j (length out) (length work) ≡ number_of_take words (length out) (length work)
  unfolding number_of_take
  take_number_lem =
      let l = job_legal words j (sym e ∙ f) in
      simp (l.0, l.1)

  out_is : out' ≡ out_after_take words out work
  unfolding out_after_take take_out
  out_is =
      let x = take_number j (length out) (length work) in
      rw (← told_by_lem) (buffer_told _ x out' _ out take_number_lem (o ∙ written_once x _ out))

  left_is : work' ≡ work_after_take words (length out) work
  unfolding work_after_take take_work
  left_is =
      let x = take_number j (length out) (length work) in
      rw (← told_by_lem) (buffer_told _ x work' _ work take_number_lem (w ∙ written_once x _ work))

  pub take_refused : (why : Refusal) (r : ℕ) → said ≡ Err why → r ≡ number why
      → (r ≡ number_of_take words (length out) (length work))
      × ((words ≡ record_after_take words (length out) work) × ((out' ≡ out_after_take words out work) × (work' ≡ work_after_take words (length out) work)))
  unfolding record_after_take
  take_refused why r a h =
      let z : number why ≡ number_of_take words (length out) (length work) = (rw a at m) ∙ take_number_lem in
      (h ∙ z, (kept_by why _ _ words (sym z), (out_is, left_is)))

  pub take_wrote : {u : ⊤} (job : Job) (words' : List ℕ) → said ≡ Ok u → job ≡ take_job j (length out) work → words' ≡ stored_job job words
      → (0 ≡ number_of_take words (length out) (length work))
      × ((words' ≡ record_after_take words (length out) work) × ((out' ≡ out_after_take words out work) × (work' ≡ work_after_take words (length out) work)))
  unfolding record_after_take
  take_wrote job words' a c s =
      let z : 0 ≡ number_of_take words (length out) (length work) = (rw a at m) ∙ take_number_lem in
      let y : job ≡ take_job (words_job words) (length out) work = rw told_by_lem at c in
      (z, (written_by _ words' _ words z (rw y at s), (out_is, left_is)))
