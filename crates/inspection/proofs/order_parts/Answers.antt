-- A cycle leaves the order as it was; else the links of the search give it.
use Rattle.std.proofs.Common.{refl, sym, ◌∙◌, arith}
use Rattle.std.proofs.lemmas.Result.{err_from_is_err_and}
use Rattle.inspection.proofs.order_parts.Goals as goal

pub lowest_on_cycle-u-requires : goal.lowest_on_cycle-u-requires
lowest_on_cycle-u-requires c = record { inside = c.requires.inside; g_bound = omega (arith, c.requires.k_bound.0) }

pub returns-in_err-refuse_at : goal.returns-in_err-refuse_at
returns-in_err-refuse_at c =
    let p = err_from_is_err_and c.from_residual.result c.from_residual.ensures.1 in
    rw (p.1, p.2) record { value = sym c.in_err-refuse_at.was ∙ c.refuse_at.ensures _ _ c.lowest_on_cycle-u.ensures.value; order_after = refl }

pub order_by-requires : goal.order_by-requires
order_by-requires c = record { inside = c.requires.inside; g_bound = (omega (arith, c.requires.k_bound.0), c.requires.k_bound.1) }

pub returns : goal.returns
returns c = record {
  value = sym c.in_ok-refuse_at.was ∙ c.refuse_at.ensures _ _ c.lowest_on_cycle-u.ensures.value;
  order_after = c.order_by.ensures.out_after;
}
