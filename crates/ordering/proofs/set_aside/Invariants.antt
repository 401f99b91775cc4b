-- the first i entries are set aside
use Rattle.ordering.specs.Search.{SetAside}
use Rattle.ordering.proofs.set_aside.Given as goal

abbrev pub invariant-loop-v : goal.invariant-loop-v
invariant-loop-v l = SetAside l.order l.v-index l.initial.aside l.aside
