-- THE THEOREM OF GROUPS, an end in itself: after every list of calls each job is what it would be alone, and the group's own claim holds. Assumes nothing.
use Rattle.group_claim.specs.Calls.{group_run, group_begun}
use Rattle.group_claim.specs.Claim.{GroupTheorem}
use Rattle.group_claim.proofs.Standing.{as_alone, standing}
use Rattle.group_claim.proofs.Claims.{group_claim}

pub group_theorem : GroupTheorem
group_theorem = record {
  each = as_alone;
  all = λ plans count work e calls. group_claim plans count work (group_run (group_begun plans count work) calls) (standing plans count work e calls);
}
