-- 01's rows marked P hold, by computation.
use mathlib.Core.List.{flat_map}
use lib.Dec.{T}
use lib.Ieee.{of_bits, to_bits, of_int, add, sub, mul, div, lt, le, is_nan, to_unsigned, round, size}
use Rattle.arith.specs.Floats.{maximum_of, clamp_of, minimum_of}
use Rattle.pressure.specs.Sample.{fraction_of}
use Rattle.pressure.specs.Smoothing.{smoothed_of}
use Rattle.pressure.specs.Pacing.{pacing_of}
use Rattle.kinds.specs.Vector.{dominant_of}
use Rattle.pressure.specs.Pressure.{blended_of, signals_of}
use Rattle.modes.specs.Mode.{next_mode_of}
use Rattle.sound.specs.Sound.{sound_of}
use Rattle.state.specs.Clock.{times_of}
use Rattle.governor.specs.Observe.{counters_full, observe_fault, accepted_of, observed_of}
use Rattle.governor_promises.specs.Calls.{modes, accepted}
use Rattle.promises.specs.Rows.{holds, all, rows}
use Rattle.keys.specs.Keys.{order_of, key_lt, key_le, lesser_of, greater_of}
use Rattle.lists.specs.Any.{any_of}
use Rattle.lists.specs.Filter.{filter_of}
use Rattle.lists.specs.Records.{records_of, tabulate}
use Rattle.lists.specs.Sort.{insert_by, sort_into}
use Rattle.records.specs.Tables.{tables_of, entries_of, first_key, last_key}
use Rattle.candidate_records.specs.Candidates.{candidates_of, estimates_of}
use Rattle.faults.specs.Tables.{broken_tables, broken_keys, levels_out}
use Rattle.candidate_faults.specs.Candidates.{fits_kind, in_unit, estimate_out}
use Rattle.levels.specs.Levels.{by_key}
use Rattle.overlaps.specs.Overlaps.{overlaps}
use Rattle.ranges.specs.Ranges.{end_from, end_of}
use Rattle.offers.specs.Offers.{seed_from, seed_of}
use Rattle.trivial_moves.specs.Moves.{is_free, move_before, moves_of}
use Rattle.writers.specs.Writers.{merged_of}
use Rattle.l0_words.specs.L0.{l0_offers}
use Rattle.candidate_words.specs.Candidates.{batch_of, move_offers, level_offers, over_offers, offers_of}
use Rattle.l0_words.specs.Words.{words_from, numbers_in}
use Rattle.candidates.specs.Generate.{input_checks, generate_fault, generated_of}
use Rattle.number_order.specs.Numbers.{repeats}
use Rattle.lookups.specs.Lookups.{lookup}
use Rattle.reliefs.specs.Reliefs.{bytes_of, first_share}
use Rattle.estimates.specs.Estimate.{oldest_from, oldest_of, estimate_of}
use Rattle.estimate_faults.specs.Faults.{estimate_fault}
use Rattle.estimates.specs.Estimate.Call.{estimated_of}
use Rattle.scores.specs.Score.{benefit_of, score_of}
use Rattle.search.specs.Choices.{choices_from, last_from, last_best}
use Rattle.choice.specs.Choice.{yields, best_within, reselected_by, focused, first_or, choice_of}
use Rattle.choice.specs.Choice.Call.{pick_fault, picked_of}
use Rattle.arith.specs.Root.{with_digit, floor_root, nearest_root, root_shift, root_digits, root_of}
use Rattle.arith.specs.Logarithm.{tab, cut, rem, rule, top_of, units_of, ln_of}
use Rattle.arith.specs.Whole.{rounded_of}

pub rows_hold : T (all rows)
unfolding order_of key_lt key_le lesser_of greater_of records_of tabulate tables_of entries_of first_key last_key any_of filter_of broken_tables broken_keys levels_out repeats insert_by sort_into by_key overlaps end_from end_of merged_of l0_offers seed_from seed_of batch_of is_free move_before moves_of move_offers level_offers over_offers offers_of words_from numbers_in lookup bytes_of oldest_from oldest_of estimate_of candidates_of estimates_of fits_kind in_unit estimate_out benefit_of score_of choices_from last_from last_best yields best_within focused first_or choice_of pick_fault picked_of minimum_of with_digit floor_root nearest_root root_shift root_digits root_of tab cut rem rule top_of units_of ln_of rounded_of to_bits lt round size all holds rows modes accepted input_checks generate_fault generated_of estimate_fault estimated_of observed_of accepted_of observe_fault counters_full times_of sound_of next_mode_of signals_of blended_of dominant_of pacing_of smoothed_of fraction_of clamp_of maximum_of to_unsigned is_nan le div mul sub add of_int of_bits flat_map first_share reselected_by
rows_hold = tt
