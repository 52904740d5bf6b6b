-- 01 (a), of each export: two outcomes that its contract allows are the same, the number and every lent word.
use mathlib.Core.Path.{◌≡◌, sym, ◌∙◌}
use Rattle.coinhamper.proofs.coinhamper_version.Reads as version
use Rattle.coinhamper.proofs.coinhamper_state_words.Reads as state-words
use Rattle.coinhamper.proofs.arithmetic.coinhamper_of_bits.Reads as of-bits
use Rattle.coinhamper.proofs.arithmetic.coinhamper_to_bits.Reads as to_bits
use Rattle.coinhamper.proofs.arithmetic.coinhamper_minimum.Reads as minimum
use Rattle.coinhamper.proofs.arithmetic.coinhamper_maximum.Reads as maximum
use Rattle.coinhamper.proofs.arithmetic.coinhamper_absolute.Reads as absolute
use Rattle.coinhamper.proofs.arithmetic.coinhamper_clamp.Reads as clamp
use Rattle.coinhamper.proofs.arithmetic.coinhamper_of_u64.Reads as of-u64
use Rattle.coinhamper.proofs.arithmetic.coinhamper_truncate.Reads as truncate
use Rattle.coinhamper.proofs.arithmetic.coinhamper_sqrt.Reads as sqrt
use Rattle.coinhamper.proofs.arithmetic.coinhamper_ln_1p.Reads as ln-1p
use Rattle.coinhamper.proofs.arithmetic.coinhamper_compare.Reads as compare
use Rattle.coinhamper.proofs.governed.coinhamper_fresh.Reads as fresh
use Rattle.coinhamper.proofs.governed.coinhamper_observe.Reads as observe
use Rattle.coinhamper.proofs.governed.coinhamper_observe_engine.Reads as observe-engine
use Rattle.coinhamper.proofs.governed.coinhamper_record_candidate_chosen.Reads as record-candidate-chosen
use Rattle.coinhamper.proofs.governed.coinhamper_record_trivial_move.Reads as record-trivial-move
use Rattle.coinhamper.proofs.governed.coinhamper_record_outcome.Reads as record-outcome
use Rattle.coinhamper.proofs.governed.coinhamper_set_focus.Reads as set-focus
use Rattle.coinhamper.proofs.governed.coinhamper_read.Reads as read
use Rattle.coinhamper.proofs.governed.coinhamper_mode.Reads as mode
use Rattle.coinhamper.proofs.governed.coinhamper_snapshot.Reads as snapshot
use Rattle.coinhamper.proofs.governed.coinhamper_pacing_delay.Reads as pacing-delay
use Rattle.coinhamper.proofs.governed.coinhamper_dominant.Reads as dominant
use Rattle.coinhamper.proofs.merges.coinhamper_generate_candidates.Reads as generate-candidates
use Rattle.coinhamper.proofs.merges.coinhamper_estimate_candidates.Reads as estimate-candidates
use Rattle.coinhamper.proofs.merges.coinhamper_cause_aware_score.Reads as cause-aware-score
use Rattle.coinhamper.proofs.merges.coinhamper_pick_best_cause_aware.Reads as pick-best-cause-aware
use Rattle.coinhamper.proofs.merges.coinhamper_scheduling_decision.Reads as scheduling-decision
use Rattle.coinhamper.proofs.logged.coinhamper_is_decision.Reads as is-decision
use Rattle.coinhamper.proofs.logged.coinhamper_kept_place.Reads as kept-place
use Rattle.coinhamper.proofs.logged.coinhamper_record_decision.Reads as record-decision
use Rattle.coinhamper.proofs.logged.coinhamper_recent_decisions.Reads as recent-decisions
use Rattle.coinhamper.proofs.logged.coinhamper_fits_length.Reads as fits-length
use Rattle.coinhamper.proofs.logged.coinhamper_write_fits.Reads as write-fits
use Rattle.coinhamper.proofs.logged.coinhamper_read_log.Reads as read_Log
use Rattle.coinhamper.proofs.logged.coinhamper_refused_lines.Reads as refused-lines
use Rattle.coinhamper.proofs.logged.coinhamper_replay.Reads as replay

pub version_decides : (κs : _) (a : _) (one other : _) (e f : _) → version.Post κs a one e → version.Post κs a other f → one ≡ other
version_decides κs a one other e f p q = p ∙ sym q

pub state_words_decides : (κs : _) (a : _) (one other : _) (e f : _) → state-words.Post κs a one e → state-words.Post κs a other f → one ≡ other
state_words_decides κs a one other e f p q = p ∙ sym q

pub of_bits_decides : (κs : _) (a : _) (one other : _) (e f : _) → of-bits.Post κs a one e → of-bits.Post κs a other f → one ≡ other
of_bits_decides κs a one other e f p q = p ∙ sym q

pub to_bits_decides : (κs : _) (a : _) (one other : _) (e f : _) → to_bits.Post κs a one e → to_bits.Post κs a other f → one ≡ other
to_bits_decides κs a one other e f p q = p ∙ sym q

pub minimum_decides : (κs : _) (a : _) (one other : _) (e f : _) → minimum.Post κs a one e → minimum.Post κs a other f → one ≡ other
minimum_decides κs a one other e f p q = p ∙ sym q

pub maximum_decides : (κs : _) (a : _) (one other : _) (e f : _) → maximum.Post κs a one e → maximum.Post κs a other f → one ≡ other
maximum_decides κs a one other e f p q = p ∙ sym q

pub absolute_decides : (κs : _) (a : _) (one other : _) (e f : _) → absolute.Post κs a one e → absolute.Post κs a other f → one ≡ other
absolute_decides κs a one other e f p q = p ∙ sym q

pub clamp_decides : (κs : _) (a : _) (one other : _) (e f : _) → clamp.Post κs a one e → clamp.Post κs a other f → one ≡ other
clamp_decides κs a one other e f p q = p ∙ sym q

pub of_u64_decides : (κs : _) (a : _) (one other : _) (e f : _) → of-u64.Post κs a one e → of-u64.Post κs a other f → one ≡ other
of_u64_decides κs a one other e f p q = p ∙ sym q

pub truncate_decides : (κs : _) (a : _) (one other : _) (e f : _) → truncate.Post κs a one e → truncate.Post κs a other f → one ≡ other
truncate_decides κs a one other e f p q = p ∙ sym q

pub sqrt_decides : (κs : _) (a : _) (one other : _) (e f : _) → sqrt.Post κs a one e → sqrt.Post κs a other f → one ≡ other
sqrt_decides κs a one other e f p q = p ∙ sym q

pub ln_1p_decides : (κs : _) (a : _) (one other : _) (e f : _) → ln-1p.Post κs a one e → ln-1p.Post κs a other f → one ≡ other
ln_1p_decides κs a one other e f p q = p ∙ sym q

pub compare_decides : (κs : _) (a : _) (one other : _) (e f : _) → compare.Post κs a one e → compare.Post κs a other f → one ≡ other
compare_decides κs a one other e f p q = p ∙ sym q

pub fresh_decides : (κs : _) (a : _) (one other : _) (e f : _) → fresh.Post κs a one e → fresh.Post κs a other f → (one ≡ other) × (e.0.now ≡ f.0.now)
fresh_decides κs a one other e f p q = (p.0 ∙ sym q.0, p.1 ∙ sym q.1)

pub observe_decides : (κs : _) (a : _) (one other : _) (e f : _) → observe.Post κs a one e → observe.Post κs a other f → (one ≡ other) × (e.0.now ≡ f.0.now)
observe_decides κs a one other e f p q = (p.0 ∙ sym q.0, p.1 ∙ sym q.1)

pub observe_engine_decides : (κs : _) (a : _) (one other : _) (e f : _) → observe-engine.Post κs a one e → observe-engine.Post κs a other f → (one ≡ other) × (e.0.now ≡ f.0.now)
observe_engine_decides κs a one other e f p q = (p.0 ∙ sym q.0, p.1 ∙ sym q.1)

pub record_candidate_chosen_decides : (κs : _) (a : _) (one other : _) (e f : _) → record-candidate-chosen.Post κs a one e → record-candidate-chosen.Post κs a other f → (one ≡ other) × (e.0.now ≡ f.0.now)
record_candidate_chosen_decides κs a one other e f p q = (p.0 ∙ sym q.0, p.1 ∙ sym q.1)

pub record_trivial_move_decides : (κs : _) (a : _) (one other : _) (e f : _) → record-trivial-move.Post κs a one e → record-trivial-move.Post κs a other f → (one ≡ other) × (e.0.now ≡ f.0.now)
record_trivial_move_decides κs a one other e f p q = (p.0 ∙ sym q.0, p.1 ∙ sym q.1)

pub record_outcome_decides : (κs : _) (a : _) (one other : _) (e f : _) → record-outcome.Post κs a one e → record-outcome.Post κs a other f → (one ≡ other) × (e.0.now ≡ f.0.now)
record_outcome_decides κs a one other e f p q = (p.0 ∙ sym q.0, p.1 ∙ sym q.1)

pub set_focus_decides : (κs : _) (a : _) (one other : _) (e f : _) → set-focus.Post κs a one e → set-focus.Post κs a other f → (one ≡ other) × (e.0.now ≡ f.0.now)
set_focus_decides κs a one other e f p q = (p.0 ∙ sym q.0, p.1 ∙ sym q.1)

pub read_decides : (κs : _) (a : _) (one other : _) (e f : _) → read.Post κs a one e → read.Post κs a other f → (one ≡ other) × (e.1.0.now ≡ f.1.0.now)
read_decides κs a one other e f p q = (p.0 ∙ sym q.0, rw (p.1, q.1, p.0, q.0))

pub mode_decides : (κs : _) (a : _) (one other : _) (e f : _) → mode.Post κs a one e → mode.Post κs a other f → (one ≡ other) × (e.1.0.now ≡ f.1.0.now)
mode_decides κs a one other e f p q = (p.0 ∙ sym q.0, p.1 ∙ sym q.1)

pub snapshot_decides : (κs : _) (a : _) (one other : _) (e f : _) → snapshot.Post κs a one e → snapshot.Post κs a other f → (one ≡ other) × (e.1.1.0.now ≡ f.1.1.0.now)
snapshot_decides κs a one other e f p q = (p.0 ∙ sym q.0, rw (p.1, q.1, p.0, q.0))

pub pacing_delay_decides : (κs : _) (a : _) (one other : _) (e f : _) → pacing-delay.Post κs a one e → pacing-delay.Post κs a other f → (one ≡ other) × (e.1.1.0.now ≡ f.1.1.0.now)
pacing_delay_decides κs a one other e f p q = (p.0 ∙ sym q.0, p.1 ∙ sym q.1)

pub dominant_decides : (κs : _) (a : _) (one other : _) (e f : _) → dominant.Post κs a one e → dominant.Post κs a other f → one ≡ other
dominant_decides κs a one other e f p q = p ∙ sym q

pub generate_candidates_decides : (κs : _) (a : _) (one other : _) (e f : _) → generate-candidates.Post κs a one e → generate-candidates.Post κs a other f → (one ≡ other) × (e.1.1.1.1.0.now ≡ f.1.1.1.1.0.now) × (e.1.1.1.1.1.0.now ≡ f.1.1.1.1.1.0.now) × (e.1.1.1.1.1.1.0.now ≡ f.1.1.1.1.1.1.0.now) × (e.1.1.1.1.1.1.1.0.now ≡ f.1.1.1.1.1.1.1.0.now)
generate_candidates_decides κs a one other e f p q = (
  p.refusal ∙ sym q.refusal,
  rw (p.candidates, q.candidates, p.refusal, q.refusal),
  rw (p.numbers, q.numbers, p.refusal, q.refusal),
  rw (p.candidate_count, q.candidate_count, p.refusal, q.refusal),
  rw (p.number_count, q.number_count, p.refusal, q.refusal),
)

pub estimate_candidates_decides : (κs : _) (a : _) (one other : _) (e f : _) → estimate-candidates.Post κs a one e → estimate-candidates.Post κs a other f → (one ≡ other) × (e.1.1.1.1.1.0.now ≡ f.1.1.1.1.1.0.now)
estimate_candidates_decides κs a one other e f p q = (p.0 ∙ sym q.0, p.1 ∙ sym q.1)

pub cause_aware_score_decides : (κs : _) (a : _) (one other : _) (e f : _) → cause-aware-score.Post κs a one e → cause-aware-score.Post κs a other f → one ≡ other
cause_aware_score_decides κs a one other e f p q = p ∙ sym q

pub pick_best_cause_aware_decides : (κs : _) (a : _) (one other : _) (e f : _) → pick-best-cause-aware.Post κs a one e → pick-best-cause-aware.Post κs a other f → (one ≡ other) × (e.1.1.1.1.1.1.1.1.0.now ≡ f.1.1.1.1.1.1.1.1.0.now)
pick_best_cause_aware_decides κs a one other e f p q = (p.0 ∙ sym q.0, rw (p.1, q.1, p.0, q.0))

pub scheduling_decision_decides : (κs : _) (a : _) (one other : _) (e f : _) → scheduling-decision.Post κs a one e → scheduling-decision.Post κs a other f → (one ≡ other) × (e.1.1.1.1.1.1.0.now ≡ f.1.1.1.1.1.1.0.now)
scheduling_decision_decides κs a one other e f p q = (p.0 ∙ sym q.0, rw (p.1, q.1, p.0, q.0))

pub is_decision_decides : (κs : _) (a : _) (one other : _) (e f : _) → is-decision.Post κs a one e → is-decision.Post κs a other f → one ≡ other
is_decision_decides κs a one other e f p q = p ∙ sym q

pub kept_place_decides : (κs : _) (a : _) (one other : _) (e f : _) → kept-place.Post κs a one e → kept-place.Post κs a other f → one ≡ other
kept_place_decides κs a one other e f p q = p ∙ sym q

pub record_decision_decides : (κs : _) (a : _) (one other : _) (e f : _) → record-decision.Post κs a one e → record-decision.Post κs a other f → (one ≡ other) × (e.0.now ≡ f.0.now) × (e.1.0.now ≡ f.1.0.now)
record_decision_decides κs a one other e f p q = (p.0 ∙ sym q.0, p.1.0 ∙ sym q.1.0, p.1.1 ∙ sym q.1.1)

pub recent_decisions_decides : (κs : _) (a : _) (one other : _) (e f : _) → recent-decisions.Post κs a one e → recent-decisions.Post κs a other f → (one ≡ other) × (e.1.1.0.now ≡ f.1.1.0.now)
recent_decisions_decides κs a one other e f p q = (p.0 ∙ sym q.0, p.1 ∙ sym q.1)

pub fits_length_decides : (κs : _) (a : _) (one other : _) (e f : _) → fits-length.Post κs a one e → fits-length.Post κs a other f → (one ≡ other) × (e.1.1.0.now ≡ f.1.1.0.now)
fits_length_decides κs a one other e f p q = (p.0 ∙ sym q.0, rw (p.1, q.1, p.0, q.0))

pub write_fits_decides : (κs : _) (a : _) (one other : _) (e f : _) → write-fits.Post κs a one e → write-fits.Post κs a other f → (one ≡ other) × (e.1.1.0.now ≡ f.1.1.0.now) × (e.1.1.1.0.now ≡ f.1.1.1.0.now)
write_fits_decides κs a one other e f p q = (p.0 ∙ sym q.0, p.1.1 ∙ sym q.1.1, rw (p.1.0, q.1.0, p.0, q.0))

pub read_log_decides : (κs : _) (a : _) (one other : _) (e f : _) → read_Log.Post κs a one e → read_Log.Post κs a other f → (one ≡ other) × (e.1.0.now ≡ f.1.0.now) × (e.1.1.0.now ≡ f.1.1.0.now)
read_log_decides κs a one other e f p q = (p.0 ∙ sym q.0, p.1.0 ∙ sym q.1.0, p.1.1 ∙ sym q.1.1)

pub refused_lines_decides : (κs : _) (a : _) (one other : _) (e f : _) → refused-lines.Post κs a one e → refused-lines.Post κs a other f → (one ≡ other) × (e.1.0.now ≡ f.1.0.now) × (e.1.1.0.now ≡ f.1.1.0.now)
refused_lines_decides κs a one other e f p q = (p.0 ∙ sym q.0, p.1.1 ∙ sym q.1.1, rw (p.1.0, q.1.0, p.0, q.0))

pub replay_decides : (κs : _) (a : _) (one other : _) (e f : _) → replay.Post κs a one e → replay.Post κs a other f → (one ≡ other) × (e.1.0.now ≡ f.1.0.now) × (e.1.1.0.now ≡ f.1.1.0.now)
replay_decides κs a one other e f p q = (p.0 ∙ sym q.0, p.1.1 ∙ sym q.1.1, rw (p.1.0, q.1.0, p.0, q.0))
