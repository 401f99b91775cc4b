-- The starred cases, computed from the definitions.
use mathlib.Core.Path.{◌≡◌, refl}
use mathlib.Core.Bool.{true}
use Rattle.folds.specs.Fold.{sum_to, count_to, max_to, first_to, any_to, all_to, list_to, turns, best_to, zeros, over, same}
use Rattle.graph.specs.Graph.{identity, edge, width_of, crossing, cut, cost_in, part_cost}
use Rattle.graph.specs.Rows.{clusters}
use Rattle.graph.specs.Table.{size_of, part_size}
use Rattle.topology.specs.Level.{rise, levels_after, levels_of, next_in}
use Rattle.topology.specs.Order.{waits, ready, or_none, order_from, order_of, place_in}
use Rattle.topology.specs.Reach.{spreads, grown, reached_after, on_cycle, lowest_on_cycle}
use Rattle.validity.specs.Check.{refuse_at, bad_vertices, bad_parts, bad_edges, bad_cost, bad_ends, repeats, cycles_from, repeats_from, lists_from, checked}
use Rattle.inspection.specs.Table.{bad_entry, is_empty, is_over, cycles_from as part_cycles, table_of}
use Rattle.inspection.specs.Inspect.{parts_of as table_part, verdict_of as inspected, inspect_of, order_after}
use Rattle.contraction.specs.Tests.{all_of, only_successor, only_predecessor, rule_one, rule_two, fits as keeps_rules}
use Rattle.contraction.specs.Next.{mate_of, together, lowest_of, leads, numbered, joined_row}
use Rattle.matching.specs.Choice.{may_take, offer, widest, taken, visit, visits, round_of}
use Rattle.hierarchy.specs.Rounds.{large, poor, kept, above, rows_of, kept_of, row_of, flat, rows_after}
use Rattle.division_table.specs.Division.{fits, interval_of, between, joined, starts_from, divisions, least}
use Rattle.initial.specs.Initial.{places_in, run_size, roomy, parts_of, least_parts, initial_of, highest, chosen_of}
use Rattle.refinement.specs.Move.{moved_to, part_of, leaves, share, pull, gain_to, larger_cost}
use Rattle.refinement.specs.Pass.{lowered, raised, lowest_next, above_before, stays, allows, is_candidate, improves, target, settled_at, visited, pass_of, spread, most_spread, measure, passes, repeated, refined_on, refined_below, refined}
use Rattle.partition.specs.Phases.{first_of, result_of}
use Rattle.partition.specs.Split.{room_for, verdict_of, split_of, table_after, rows_left}
use Rattle.starred_cases.specs.Starred.{splits, inspects, holds, every, starred}

pub starred_hold : every starred ≡ true
unfolding sum_to count_to max_to first_to any_to all_to list_to turns best_to zeros over identity edge width_of crossing cut cost_in part_cost clusters rise levels_after levels_of waits ready or_none order_from order_of place_in spreads grown reached_after on_cycle lowest_on_cycle refuse_at bad_vertices bad_parts bad_edges bad_cost bad_ends repeats cycles_from repeats_from lists_from checked bad_entry is_empty is_over part_cycles table_of table_part inspected inspect_of order_after all_of next_in only_successor only_predecessor rule_one rule_two keeps_rules mate_of together lowest_of leads numbered joined_row may_take offer widest taken visit visits round_of large poor kept above rows_of kept_of row_of flat rows_after fits interval_of between joined starts_from divisions least places_in run_size roomy parts_of least_parts initial_of highest chosen_of size_of part_size moved_to part_of leaves share pull gain_to larger_cost lowered raised lowest_next above_before stays allows is_candidate improves target settled_at visited pass_of spread most_spread measure passes repeated refined_on refined_below refined first_of result_of room_for verdict_of split_of table_after rows_left same splits inspects holds every starred
starred_hold = refl
