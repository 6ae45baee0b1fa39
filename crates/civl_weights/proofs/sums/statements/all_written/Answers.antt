use Rattle.std.proofs.Common.{List, map, sym, ap}
use Rattle.civl_tree.specs.declared.action.Param.{Param}
use Rattle.civl_tree.specs.declared.program.Local.{Local}
use Rattle.civl_tree.specs.declared.program.Global.{Global}
use Rattle.civl_tree.specs.rules.Scopes.{bind_globals, bind_params, bind_locals}
use Rattle.civl_conditions.specs.Weights.{written_bits}
use Rattle.civl_weighing.proofs.Capping.{sum_weighs, weighs_same}
use Rattle.civl_weights.proofs.sums.Naming.{written_append}
use Rattle.civl_weights.proofs.sums.statements.all_written.Goals as goal

pub returns : goal.returns
returns c = sum_weighs c.plus-3.ensures (sum_weighs c.plus-2.ensures (weighs_same (ap (λ (gs : List Global). written_bits (map (λ n. n.now) c.args.names.now) (bind_globals gs)) c.as_slice-3.ensures) c.globals_written.ensures) (weighs_same (sym (written_append (map (λ n. n.now) c.args.names.now) (bind_params c.args.proc.now.outs) (bind_locals c.args.proc.now.locals))) (sum_weighs c.plus.ensures (weighs_same (ap (λ (ps : List Param). written_bits (map (λ n. n.now) c.args.names.now) (bind_params ps)) c.as_slice.ensures) c.outs_written-outs.ensures) (weighs_same (ap (λ (ls : List Local). written_bits (map (λ n. n.now) c.args.names.now) (bind_locals ls)) c.as_slice-2.ensures) c.locals_written-locals.ensures)))) c.of.ensures
