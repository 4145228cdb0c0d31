-- The invariant: the run of the whole is i bytes and the run of what is left. Assumes nothing.
use Rattle.pam_text.proofs.Texts.{Run}
use Rattle.pam_text.proofs.run_of.Given as goal

abbrev pub invariant-loop-i : goal.invariant-loop-i
invariant-loop-i l = Run l.class l.s l.i
