use Rattle.civl_reduction.proofs.checked.Checking.{actions_keep_permissions, actions_are_movers, checked_stay_parted, checked_exchange, checked_never_differs, spawns_are_in_roots}
use Rattle.civl_reduction.proofs.checked.laws.checked.Goals as goal

pub returns-clause-permissions : goal.returns-clause-permissions
returns-clause-permissions c = actions_keep_permissions

pub returns-clause-movers : goal.returns-clause-movers
returns-clause-movers c = actions_are_movers

pub returns-clause-parted : goal.returns-clause-parted
returns-clause-parted c = checked_stay_parted

pub returns-clause-exchanged : goal.returns-clause-exchanged
returns-clause-exchanged c = checked_exchange

pub returns-clause-differs : goal.returns-clause-differs
returns-clause-differs c = checked_never_differs

pub returns-clause-roots : goal.returns-clause-roots
returns-clause-roots c = spawns_are_in_roots
