use Rattle.std.proofs.Common.{rules}
use Rattle.store_model.specs.Calls.{modify_call}
use Rattle.store_laws.proofs.Promises.{modify_promised}
use Rattle.store.proofs.Laws.Calls.{with_refused, with_done, the_back, the_plays}
use Rattle.store.proofs.calls.modify.Goals as goal

pub returns-in-Err : goal.returns-in-Err
unfolding modify_call
returns-in-Err c =
    let p = modify_promised _ _ _ (search rules) (search rules) (search rules) _ _ _ c.type_inv.data
    (with_refused _ _ _ _ c.check.ensures.computed _ _ _ _ _ c.in-Err.is c.code.ensures c.refused.ensures) in
    record { computed = p.0; back = p.1.0; plays = p.1.1 }

-- Each part by itself, with no name of the call that changes the file: it stands in the goal.
pub returns : goal.returns
unfolding modify_call
returns c = record {
  computed = with_done _ _ _ _ c.check.ensures.computed _ _ _ _ c.in_default.not-Err (cc);
  back = the_back
      (modify_promised _ _ _ (search rules) (search rules) (search rules) _ _ _ c.type_inv.data
      (with_done _ _ _ _ c.check.ensures.computed _ _ _ _ c.in_default.not-Err (cc)));
  plays = the_plays
      (modify_promised _ _ _ (search rules) (search rules) (search rules) _ _ _ c.type_inv.data
      (with_done _ _ _ _ c.check.ensures.computed _ _ _ _ c.in_default.not-Err (cc)));
}
