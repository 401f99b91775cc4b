-- Checks 1 to 6 refuse, or leave known what 7 and 8 ask for; where these pass too, the order is left.
use Rattle.std.proofs.Common.{refl}
use Rattle.validity.proofs.Checks.{refused_order}
use Rattle.validity.proofs.Repeats.{lists_refused, lists_passed}
use Rattle.validity.proofs.check.Goals as goal

pub returns-in-Ok : goal.returns-in-Ok
returns-in-Ok c = let (n, (starts, ends)) = c.in-Ok.ensures.own in
    record {
      value = lists_passed _ _ _ _ _ c.in-Ok.ensures.value (rw (n, starts, ends) at c.check_order.ensures.verdict_value);
      order_left = rw (n, starts, ends) at c.check_order.ensures.order_left;
    }

pub returns-in-Err : goal.returns-in-Err
returns-in-Err c = record {
  value = lists_refused _ _ _ _ _ c.in-Err.ensures.value;
  order_left = refused_order refl;
}
