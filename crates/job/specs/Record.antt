-- The record and its rules (SCOPE, "The job"). Assumes nothing.
use Rattle.std.specs.Prelude.{ℕ, ◌-◌, Bool, false, cond}
use Rattle.job_rules.specs.declared.Plan.{Plan}
use Rattle.job_rules.specs.Rules.{R, lawful_of, RulesOf}
use Rattle.job.specs.declared.Job.{Job}

-- the record that an accepting start returns
abbrev pub fresh : Plan → Job
fresh p = record { plan = p; accepted = 0; taken = 0; flag = false }

-- the rules, as a test and as facts
abbrev pub lawful : Job → Bool
lawful j = lawful_of j.plan j.accepted j.taken j.flag

abbrev pub Rules : Job → Type 0
Rules j = RulesOf j.plan j.accepted j.taken j.flag

-- "Ready = R(k) - t": the rules have t at most R(k). A record that breaks them has none ready.
unfoldable pub ready_of : Job → ℕ
ready_of j = cond (lawful j) (R j.plan j.accepted - j.taken) 0
