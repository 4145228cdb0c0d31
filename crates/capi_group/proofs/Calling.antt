-- What each way out of a group's start, offer and take gives, as the contracts state it. Where the call went through, the group that the library hands back is the
-- one that is stored. Assumes nothing.
use Rattle.std.specs.Prelude.{Option, Some, None, Result, Ok, Err, ⊤}
use Prim.Native.Nat.{ℕ, ◌≤◌}
use mathlib.Core.Path.{◌≡◌, refl, sym, ap, ◌∙◌}
use mathlib.Core.Bool.{true, not}
use mathlib.Core.List.{List}
use lib.Dec.{ltb}
use lib.ListN.{length}
use borrow.Author.Tests.{le-ltb}
use Rattle.pixels.specs.declared.Refusal.{Refusal}
use Rattle.pixels.specs.declared.Refusal.TheVariants.{InvalidRecord}
use Rattle.pixels.specs.Refusals.{number, answer_number, value_or, buffer_if}
use Rattle.job_rules.specs.declared.Plan.{Plan}
use Rattle.group_rules.specs.declared.Group.{Group}
use Rattle.group_rules.specs.Group.{looked}
use Rattle.group_rules.specs.Tests.{group_start_number, group_offer_number, group_take_number}
use Rattle.group_start.specs.Start.{group_started, group_start_work}
use Rattle.group.specs.Calls.{group_offer_rows, group_offered, group_offer_work, group_taken, group_take_out, group_take_work}
use Rattle.capi_words.specs.Boundary.{boundary, boundary_first, stored_word}
use Rattle.capi_words.proofs.Boundary.{kept_by, written_by, written_once, buffer_told, misuse_told, misuse_kept}
use Rattle.capi_group_record.specs.GroupRecord.{plans_legal, plans_of, told_plans, words_group, told_group, stored_group, group_first}
use Rattle.capi_group_record.proofs.Groups.{plans_legal_lem, plans_illegal, group_legal_lem, group_illegal}
use Rattle.capi_group.specs.GroupCalls.{number_of_start_group, work_after_start_group, record_after_start_group, number_of_offer_group, record_after_offer_group, work_after_offer_group, accepted_after_offer_group, number_of_take_group, record_after_take_group, out_after_take_group, work_after_take_group}

-- ---- start
abbrev StartGives : List ℕ → ℕ → List ℕ → List ℕ → ℕ → List ℕ → List ℕ → Type 0
StartGives plans count work words r work' words' =
    (r ≡ number_of_start_group plans count (length work) (length words))
    × ((work' ≡ work_after_start_group plans count work (length words)) × (words' ≡ record_after_start_group plans count (length work) words))

module _ (plans : List ℕ) (count : ℕ) (work words : List ℕ) {got : Option (List Plan)} (e : got ≡ told_plans plans count (length words)) where
  pub start_misused : got ≡ None → StartGives plans count work words boundary work words
  unfolding number_of_start_group work_after_start_group record_after_start_group
  start_misused f =
      let l : not (plans_legal plans (looked count) (length words)) ≡ true = simp (plans_illegal plans count (length words) e f) in
      (misuse_told _ refl l, (misuse_kept _ refl l _ work, misuse_kept _ refl l _ words))

  module _ (given : List Plan) (f : got ≡ Some given) (next : List ℕ) (answer : Result ⊤ Refusal)
      (m : answer_number answer ≡ group_start_number given count (length work)) (w : next ≡ group_start_work given count work) where
    abbrev start_n : ℕ
    start_n = number_of_start_group plans count (length work) (length words)

    same_plans : given ≡ plans_of plans (looked count)
    same_plans = (plans_legal_lem plans count (length words) e given f).1

    start_number_lem : group_start_number given count (length work) ≡ start_n
    unfolding number_of_start_group
    start_number_lem = simp ((plans_legal_lem plans count (length words) e given f).0, same_plans)

    start_work_lem : next ≡ work_after_start_group plans count work (length words)
    unfolding work_after_start_group group_start_work
    start_work_lem =
        let x = group_start_number given count (length work) in
        rw (← same_plans) (buffer_told start_n x next _ work start_number_lem (w ∙ written_once x _ work))

    pub start_refused : (why : Refusal) (r : ℕ) → answer ≡ Err why → r ≡ number why → StartGives plans count work words r next words
    unfolding record_after_start_group
    start_refused why r a h =
        let z : number why ≡ start_n = (rw a at m) ∙ start_number_lem in
        (h ∙ z, (start_work_lem, kept_by why start_n _ words (sym z)))

    pub start_fresh : (group : Group) (words' : List ℕ) → answer ≡ Ok tt → group ≡ group_started given count (length work) → words' ≡ stored_group group words
        → StartGives plans count work words 0 next words'
    unfolding record_after_start_group
    start_fresh group words' a g s =
        let z : 0 ≡ start_n = (rw a at m) ∙ start_number_lem in
        let q : group ≡ group_started (plans_of plans (looked count)) count (length work) = rw same_plans at g in
        (z, (start_work_lem, written_by start_n words' _ words z (rw q at s)))

-- ---- words that make no group
no_group_lem : (words : List ℕ) (n r : ℕ) {got : Option Group} → got ≡ told_group words → got ≡ None → r ≡ number InvalidRecord → r ≡ group_first words n
no_group_lem words n r e f h = h ∙ simp (group_illegal words e f)

-- ---- a buffer as the library leaves it, n being the number told
offer_buffer : (g : Group) (n : ℕ) (rows work next : List ℕ) → group_offer_number g (length rows) (length work) ≡ n → next ≡ group_offer_work g rows work
    → next ≡ buffer_if n (group_offer_work g rows work) work
unfolding group_offer_work
offer_buffer g n rows work next e w =
    let x = group_offer_number g (length rows) (length work) in
    buffer_told n x next _ work e (w ∙ written_once x _ work)

out_buffer : (g : Group) (n job : ℕ) (out work next : List ℕ) → group_take_number g job (length out) (length work) ≡ n → next ≡ group_take_out g job out work
    → next ≡ buffer_if n (group_take_out g job out work) out
unfolding group_take_out
out_buffer g n job out work next e w =
    let x = group_take_number g job (length out) (length work) in
    buffer_told n x next _ out e (w ∙ written_once x _ out)

left_buffer : (g : Group) (n job bytes : ℕ) (work next : List ℕ) → group_take_number g job bytes (length work) ≡ n → next ≡ group_take_work g job bytes work
    → next ≡ buffer_if n (group_take_work g job bytes work) work
unfolding group_take_work
left_buffer g n job bytes work next e w =
    let x = group_take_number g job bytes (length work) in
    buffer_told n x next _ work e (w ∙ written_once x _ work)

-- ---- offer
abbrev OfferGives : List ℕ → List ℕ → List ℕ → List ℕ → ℕ → List ℕ → List ℕ → List ℕ → Type 0
OfferGives words rows work accepted r words' work' accepted' =
    (r ≡ number_of_offer_group words (length rows) (length work) (length accepted))
    × ((words' ≡ record_after_offer_group words (length rows) (length work) (length accepted))
    × ((work' ≡ work_after_offer_group words rows work (length accepted)) × (accepted' ≡ accepted_after_offer_group words (length rows) (length work) accepted)))

pub offer_misused : (words rows work accepted : List ℕ) → ltb (length accepted) 1 ≡ true → OfferGives words rows work accepted boundary words work accepted
unfolding number_of_offer_group record_after_offer_group work_after_offer_group accepted_after_offer_group
offer_misused words rows work accepted f =
    (misuse_told _ refl f, (misuse_kept _ refl f _ words, (misuse_kept _ refl f _ work, misuse_kept _ refl f _ accepted)))

module _ (words rows work accepted : List ℕ) (lent : 1 ≤ length accepted) {got : Option Group} (e : got ≡ told_group words) where
  abbrev offer_n : ℕ
  offer_n = number_of_offer_group words (length rows) (length work) (length accepted)

  pub offer_no_group : got ≡ None → (r : ℕ) → r ≡ number InvalidRecord → OfferGives words rows work accepted r words work accepted
  unfolding number_of_offer_group record_after_offer_group work_after_offer_group accepted_after_offer_group
  offer_no_group f r h =
      let x = group_offer_number (words_group words) (length rows) (length work) in
      let y : group_first words x ≡ boundary_first (ltb (length accepted) 1) (group_first words x) = simp (le-ltb (length accepted) 1 lent) in
      let z : r ≡ boundary_first (ltb (length accepted) 1) (group_first words x) = no_group_lem words x r e f h ∙ y in
      let k = sym z ∙ h in
      (z, (kept_by InvalidRecord _ _ words k, (kept_by InvalidRecord _ _ work k, kept_by InvalidRecord _ _ accepted k)))

  module _ (told : Group) (f : got ≡ Some told) (next : List ℕ) (answer : Result ℕ Refusal)
      (m : answer_number answer ≡ group_offer_number told (length rows) (length work)) (w : next ≡ group_offer_work told rows work) where
    same_group : told ≡ words_group words
    same_group = (group_legal_lem words e told f).1

    offer_number_lem : group_offer_number told (length rows) (length work) ≡ offer_n
    unfolding number_of_offer_group
    offer_number_lem = simp (le-ltb (length accepted) 1 lent, (group_legal_lem words e told f).0, same_group)

    offer_work_lem : next ≡ work_after_offer_group words rows work (length accepted)
    unfolding work_after_offer_group
    offer_work_lem =
        offer_buffer told offer_n rows work next offer_number_lem w
        ∙ ap (λ (g : Group). buffer_if offer_n (group_offer_work g rows work) work) same_group

    pub offer_refused : (why : Refusal) (r : ℕ) → answer ≡ Err why → r ≡ number why → OfferGives words rows work accepted r words next accepted
    unfolding record_after_offer_group accepted_after_offer_group
    offer_refused why r a h =
        let z : number why ≡ offer_n = (rw a at m) ∙ offer_number_lem in
        (h ∙ z, (kept_by why offer_n _ words (sym z), (offer_work_lem, kept_by why offer_n _ accepted (sym z))))

    pub offer_accepted : (k : ℕ) (group : Group) (words' accepted' : List ℕ) → answer ≡ Ok k → value_or 0 answer ≡ group_offer_rows told (length rows) (length work)
        → group ≡ group_offered told (length rows) (length work) → words' ≡ stored_group group words → accepted' ≡ stored_word k accepted
        → OfferGives words rows work accepted 0 words' next accepted'
    unfolding record_after_offer_group accepted_after_offer_group
    offer_accepted k group words' accepted' a c o s u =
        let z : 0 ≡ offer_n = (rw a at m) ∙ offer_number_lem in
        let x : k ≡ group_offer_rows (words_group words) (length rows) (length work) = rw same_group at (rw a at c) in
        let y : group ≡ group_offered (words_group words) (length rows) (length work) = rw same_group at o in
        (z, (written_by offer_n words' _ words z (rw y at s), (offer_work_lem, written_by offer_n accepted' _ accepted z (rw x at u))))

-- ---- take of a job
abbrev TakeGives : List ℕ → ℕ → List ℕ → List ℕ → ℕ → List ℕ → List ℕ → List ℕ → Type 0
TakeGives words job out work r words' out' work' =
    (r ≡ number_of_take_group words job (length out) (length work))
    × ((words' ≡ record_after_take_group words job (length out) work)
    × ((out' ≡ out_after_take_group words job out work) × (work' ≡ work_after_take_group words job (length out) work)))

module _ (words : List ℕ) (job : ℕ) (out work : List ℕ) {got : Option Group} (e : got ≡ told_group words) where
  abbrev take_n : ℕ
  take_n = number_of_take_group words job (length out) (length work)

  pub take_no_group : got ≡ None → (r : ℕ) → r ≡ number InvalidRecord → TakeGives words job out work r words out work
  unfolding number_of_take_group record_after_take_group out_after_take_group work_after_take_group
  take_no_group f r h =
      let z : r ≡ group_first words (group_take_number (words_group words) job (length out) (length work)) = no_group_lem words _ r e f h in
      let k = sym z ∙ h in
      (z, (kept_by InvalidRecord _ _ words k, (kept_by InvalidRecord _ _ out k, kept_by InvalidRecord _ _ work k)))

  module _ (told : Group) (f : got ≡ Some told) (out' work' : List ℕ) (answer : Result ⊤ Refusal)
      (m : answer_number answer ≡ group_take_number told job (length out) (length work)) (o : out' ≡ group_take_out told job out work)
      (w : work' ≡ group_take_work told job (length out) work) where
    told_group_lem : told ≡ words_group words
    told_group_lem = (group_legal_lem words e told f).1

    take_number_lem : group_take_number told job (length out) (length work) ≡ take_n
    unfolding number_of_take_group
    take_number_lem = simp ((group_legal_lem words e told f).0, told_group_lem)

    take_out_lem : out' ≡ out_after_take_group words job out work
    unfolding out_after_take_group
    take_out_lem =
        out_buffer told take_n job out work out' take_number_lem o
        ∙ ap (λ (g : Group). buffer_if take_n (group_take_out g job out work) out) told_group_lem

    take_left : work' ≡ work_after_take_group words job (length out) work
    unfolding work_after_take_group
    take_left =
        left_buffer told take_n job (length out) work work' take_number_lem w
        ∙ ap (λ (g : Group). buffer_if take_n (group_take_work g job (length out) work) work) told_group_lem

    pub take_refused : (why : Refusal) (r : ℕ) → answer ≡ Err why → r ≡ number why → TakeGives words job out work r words out' work'
    unfolding record_after_take_group
    take_refused why r a h =
        let z : number why ≡ take_n = (rw a at m) ∙ take_number_lem in
        (h ∙ z, (kept_by why take_n _ words (sym z), (take_out_lem, take_left)))

    pub take_wrote : (group : Group) (words' : List ℕ) → answer ≡ Ok tt → group ≡ group_taken told job (length out) work → words' ≡ stored_group group words
        → TakeGives words job out work 0 words' out' work'
    unfolding record_after_take_group
    take_wrote group words' a c s =
        let z : 0 ≡ take_n = (rw a at m) ∙ take_number_lem in
        let y : group ≡ group_taken (words_group words) job (length out) work = rw told_group_lem at c in
        (z, (written_by take_n words' _ words z (rw y at s), (take_out_lem, take_left)))
