-- `decisions::to_words` meets its contract.
use Rattle.std.proofs.Common.{◌≡◌, [], ◌∷◌, ℕ, refl, sym, ◌∙◌, Option, None, Some, MatchOption}
use Rattle.kinds.specs.declared.kind.CandidateKind.{CandidateKind}
use lib.Ieee.{binary64, to_bits}
use Rattle.kinds.specs.Numbers.{dominant_number, tier_number, kind_number, kind_level, kind_length}
use Rattle.decisions.specs.declared.SchedulingDecision.{SchedulingDecision}
use Rattle.decisions.specs.Decision.{decision_words}
use Rattle.decisions.proofs.to_words.Goals as goal

-- by the words that are worked out apart
in_parts : (d : SchedulingDecision) {a b c e f g h i j k l : ℕ}
    → a ≡ to_bits binary64 d.pressure.l0 → b ≡ to_bits binary64 d.pressure.deep_debt → c ≡ to_bits binary64 d.pressure.read → e ≡ dominant_number d.dominant → f ≡ tier_number d.tier
    → g ≡ kind_number d.chosen → h ≡ kind_level d.chosen → i ≡ kind_length d.chosen → j ≡ to_bits binary64 d.l0_relief → k ≡ to_bits binary64 d.debt_relief → l ≡ to_bits binary64 d.read_relief
    → d.sequence ∷ a ∷ b ∷ c ∷ e ∷ f ∷ d.candidates_considered ∷ g ∷ h ∷ i ∷ d.predicted_rewrite_bytes ∷ j ∷ k ∷ l ∷ [] ≡ decision_words d
unfolding decision_words
in_parts d a b c e f g h i j k l = rw (a, b, c, e, f, g, h, i, j, k, l)

-- what is chosen, by its number, level or length
told : (f : Option CandidateKind → ℕ) (k : Option CandidateKind) {n : ℕ} → f None ≡ 0 → MatchOption k (n ≡ 0) (λ x. n ≡ f (Some x)) → n ≡ f k
told f None z h = h ∙ sym z
told f (Some x) z h = h

pub returns : goal.returns
returns c = in_parts c.args.d c.to_bits.ensures c.to_bits-2.ensures c.to_bits-3.ensures c.from.ensures c.from-2.ensures (told kind_number c.args.d.chosen refl c.map_or.ensures) (told kind_level c.args.d.chosen refl c.map_or-2.ensures) (told kind_length c.args.d.chosen refl c.map_or-3.ensures) c.to_bits-4.ensures c.to_bits-5.ensures c.to_bits-6.ensures
