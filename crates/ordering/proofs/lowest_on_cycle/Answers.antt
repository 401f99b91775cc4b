-- all are taken where there is no cycle; else those that are left are tried
use native.Mathlib.Omega.{arith}
use mathlib.Core.Path.{sym, ◌∙◌}
use Rattle.folds.proofs.Found.{below_none, not_below}
use Rattle.topology.proofs.Reaches.{all_taken}
use Rattle.ordering.proofs.Free.{ordering_front, front_few}
use Rattle.ordering.proofs.Sweeps.{none_all}
use Rattle.ordering.proofs.lowest_on_cycle.Goals as goal

pub order_by-count-requires : goal.order_by-count-requires
order_by-count-requires c = record {
  inside = c.requires.inside;
  g_bound = (c.requires.g_bound, omega (arith, c.requires.g_bound));
}

pub returns-then-count-g : goal.returns-then-count-g
returns-then-count-g c = record {
  value = below_none (omega (arith, all_taken _ _ c.requires.inside c.order_by-count.ensures.value c.if-count-g.true));
  taken_after = c.order_by-count.ensures.out_after;
  levels_after = (λ _. c.order_by-count.ensures.levels_after c.if-count-g.true);
  linked = c.link_leaving.ensures;
}

pub shared_ref_as_front-search_guessed : goal.shared_ref_as_front-search_guessed
shared_ref_as_front-search_guessed c = omega (arith, c.requires.g_bound, front_few _ _ c.requires.g_bound c.order_by-count.ensures.value)

pub search_guessed-requires : goal.search_guessed-requires
search_guessed-requires c = ordering_front _ _ _ c.requires.g_bound (omega arith) c.order_by-count.ensures.value c.order_by-count.ensures.out_after

pub returns : goal.returns
returns c = record {
  value = c.search_guessed.ensures;
  taken_after = c.order_by-count.ensures.out_after;
  levels_after = (λ q. c.order_by-count.ensures.levels_after (none_all _ _ c.requires.inside (not_below (sym c.search_guessed.ensures ∙ q)) c.order_by-count.ensures.value));
  linked = c.link_leaving.ensures;
}
