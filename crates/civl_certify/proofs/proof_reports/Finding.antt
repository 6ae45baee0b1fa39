-- What a replay finds, by its exact contract.
use Rattle.std.specs.Prelude.{◌↔◌}
use Rattle.std.proofs.Common.{◌≡◌, ℕ, List, refl}
use Rattle.civl_cnf.specs.Literal.{Literal}
use Rattle.civl_cnf.specs.ClauseSet.{ClauseSet}
use Rattle.civl_rup.specs.Rup.{Refutes, IsFirstWithoutRup, HasRupAndNoEmpty}
use Rattle.civl_rup.specs.declared.answer.Replay.{Replay}
use Rattle.civl_rup.specs.declared.answer.Replay.TheVariants.{Refutes as Refuted, NotRup, NoEmpty}
use Rattle.civl_certify.specs.proof_reports.Replaying.{IsReplay}

pub replay_is : (set : ClauseSet) (log : List (List Literal)) (found : Replay) → ((i : ℕ) → (found ≡ NotRup i) ↔ IsFirstWithoutRup set log i) → (found ≡ NoEmpty) ↔ HasRupAndNoEmpty set log → (found ≡ Refuted) ↔ Refutes set log → IsReplay set log found
replay_is set log Refuted not_rup no_empty refutes = refutes.0 refl
replay_is set log (NotRup i) not_rup no_empty refutes = (not_rup i).0 refl
replay_is set log NoEmpty not_rup no_empty refutes = no_empty.0 refl
